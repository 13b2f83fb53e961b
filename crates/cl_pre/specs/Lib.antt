pub mod Conditions
pub mod Definitions
pub mod Directives
pub mod Expansion
pub mod Fronts
pub mod Groups
pub mod Predefined
pub mod Settled
pub mod Unended
pub mod Words
pub use Rattle.cl_condition.specs.Conditions as Judgements
pub use Rattle.cl_macro.specs.Answers
pub use Rattle.cl_macro.specs.Expansions
pub use Rattle.cl_macro.specs.Firsts
pub use Rattle.cl_macro.specs.Items
pub use Rattle.cl_macro.specs.Names
pub use Rattle.cl_macro.specs.Replacements
pub use Rattle.cl_macro.specs.Tables
