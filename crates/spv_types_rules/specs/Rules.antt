-- The rules by number, what breaks them, and what it is that a module is valid.
use Rattle.std.specs.Prelude.{◌≡◌, ℕ, ◌+◌, ◌<◌, ◌⊎◌, Bool, true, false, ◌&&◌, List, [], ◌∷◌, take, map, sum, length, All, Contains}
use Rattle.spv_module.specs.declared.op.TheConstants as op
use Rattle.spv_module.specs.declared.module.Inst.{Inst}
use Rattle.spv_module.specs.Words.{word_count}
use Rattle.spv_types_rules.specs.Lines.{Line, Whole, Func, Spot, whole, lines_of, to_end, onto}
use Rattle.spv_types_rules.specs.Sections.{is_built, is_in_order, keeps_model, has_model, keeps_capability, has_capabilities, keeps_extension, has_extensions, keeps_import, has_import}
use Rattle.spv_types_rules.specs.Ids.{defines_once, keeps_kinds, is_ordered, keeps_uses}
use Rattle.spv_types_rules.specs.Types.{is_new_type, is_good_type, keeps_arrays, keeps_layout, keeps_places, is_small_type}
use Rattle.spv_types_rules.specs.Variables.{keeps_storage, keeps_bound, keeps_apart, keeps_push, keeps_input, keeps_marks, keeps_fixed, keeps_bools, keeps_pointers}
use Rattle.spv_types_rules.specs.Entries.{keeps_entries, has_entry, keeps_entry_functions, keeps_interfaces, has_group_size, keeps_spec_ids}
use Rattle.spv_types_rules.specs.Functions.{keeps_calls, keeps_functions, keeps_parameters, keeps_blocks, keeps_targets, keeps_arguments, keeps_returns}
use Rattle.spv_types_rules.specs.Structure.{IsStructured}
use Rattle.spv_types_rules.specs.Values.{keeps_operands, keeps_accesses, keeps_chains, keeps_atomics, keeps_composites, keeps_selectors, keeps_reflection}

-- A rule: its number, what holds of each line that doesn't break it, and what the module as a whole must have besides.
pub record Rule : Type 0 where
  pub number : ℕ
  pub keeps : Spot → Bool
  pub has : Whole → Bool

abbrev pub nothing : Whole → Bool
nothing w = true

abbrev pub anywhere : Spot → Bool
anywhere s = true

abbrev pub rule : ℕ → (Spot → Bool) → Rule
rule n keeps = record { number = n; keeps = keeps; has = nothing }

abbrev pub rule_with : ℕ → (Spot → Bool) → (Whole → Bool) → Rule
rule_with n keeps has = record { number = n; keeps = keeps; has = has }

-- rule 0, for as long as not all opcodes are in use
abbrev pub built_rule : Rule
built_rule = rule 0 is_built

-- the rules 1 to 44, but rule 35
abbrev pub rules : List Rule
rules =
    rule 1 is_in_order ∷ rule_with 2 keeps_model has_model ∷ rule_with 3 keeps_capability has_capabilities ∷ rule_with 4 keeps_extension has_extensions ∷ rule_with 5 keeps_import has_import
    ∷ rule 6 defines_once ∷ rule 7 keeps_kinds ∷ rule 8 is_ordered ∷ rule 9 keeps_uses
    ∷ rule 10 is_new_type ∷ rule 11 is_good_type ∷ rule 12 keeps_arrays ∷ rule 13 keeps_layout ∷ rule 14 keeps_places ∷ rule 15 is_small_type
    ∷ rule 16 keeps_storage ∷ rule 17 keeps_bound ∷ rule 18 keeps_apart ∷ rule 19 keeps_push ∷ rule 20 keeps_input ∷ rule 21 keeps_marks ∷ rule 22 keeps_fixed ∷ rule 23 keeps_bools ∷ rule 24 keeps_pointers
    ∷ rule_with 25 keeps_entries has_entry ∷ rule 26 keeps_entry_functions ∷ rule 27 keeps_interfaces ∷ rule_with 28 anywhere has_group_size ∷ rule 29 keeps_spec_ids
    ∷ rule 30 keeps_calls ∷ rule 31 keeps_functions ∷ rule 32 keeps_parameters ∷ rule 33 keeps_blocks ∷ rule 34 keeps_targets
    ∷ rule 36 keeps_operands ∷ rule 37 keeps_accesses ∷ rule 38 keeps_chains ∷ rule 39 keeps_arguments ∷ rule 40 keeps_atomics ∷ rule 41 keeps_composites ∷ rule 42 keeps_selectors ∷ rule 43 keeps_returns ∷ rule 44 keeps_reflection ∷ []

-- ---- which line breaks a rule

abbrev pub spot : List Line → List Line → Line → List Line → Spot
spot ls before l after = record { whole = whole ls; before = before; here = l; after = after }

-- the line at an index, with what stands before and after it
pub record IsAt (ls : List Line) (i : ℕ) (before : List Line) (l : Line) (after : List Line) : Type 0 where
  pub parts : ls ≡ onto before (l ∷ after)
  pub at : length before ≡ i

-- The instruction at an index breaks the rule of a number. A function whose blocks are no sequence breaks rule 35 at its OpFunction.
pub data Breaks (body : List Inst) : ℕ → ℕ → Type 0 where
  by_line : (r : Rule) (i : ℕ) (before : List Line) (l : Line) (after : List Line) → Contains rules r → IsAt (lines_of body) i before l after → r.keeps (spot (lines_of body) before l after) ≡ false → Breaks body r.number i
  by_blocks : (i : ℕ) (before : List Line) (l : Line) (after : List Line) → IsAt (lines_of body) i before l after → l.op ≡ op.FUNCTION → (IsStructured (to_end after) → ⊥) → Breaks body 35 i

-- The module lacks what the rule of a number wants of it: then no instruction breaks the rule so.
pub data Lacks (body : List Inst) : ℕ → Type 0 where
  by_whole : (r : Rule) → Contains rules r → r.has (whole (lines_of body)) ≡ false → Lacks body r.number

-- ---- the least broken rule

-- No instruction breaks the rule of a number, and the module lacks nothing that it wants.
pub record IsIntact (body : List Inst) (n : ℕ) : Type 0 where
  pub lines : (i : ℕ) → Breaks body n i → ⊥
  pub whole : Lacks body n → ⊥

-- the index of an instruction's first word in the module, behind the five words of the header
abbrev pub first_word : List Inst → ℕ → ℕ
first_word body i = 5 + sum (map word_count (take i body))

-- The word at which a broken rule is named: that of the first instruction that breaks it, or 0 where none does.
pub data IsBrokenAt (body : List Inst) (n : ℕ) : ℕ → Type 0 where
  at_line : (i : ℕ) → Breaks body n i → ((j : ℕ) → j < i → Breaks body n j → ⊥) → IsBrokenAt body n (first_word body i)
  at_none : Lacks body n → ((j : ℕ) → Breaks body n j → ⊥) → IsBrokenAt body n 0

-- The least of the rules that are broken, and its word.
pub record IsLeastBroken (body : List Inst) (n word : ℕ) : Type 0 where
  pub broken : IsBrokenAt body n word
  pub least : (m : ℕ) → m < n → IsIntact body m

-- ---- validity

-- whether each of some lines of a module keeps a rule: those before them stand the last first
abbrev pub all_keep : (Spot → Bool) → Whole → List Line → List Line → Bool
all_keep keeps w before [] = true
all_keep keeps w before (l ∷ ls) = keeps (record { whole = w; before = before; here = l; after = ls }) && all_keep keeps w (l ∷ before) ls

abbrev pub is_kept_in : Rule → Whole → Bool
is_kept_in r w = all_keep r.keeps w [] w.lines && r.has w

abbrev pub IsKept : List Inst → Rule → Type 0
IsKept body r = is_kept_in r (whole (lines_of body)) ≡ true

abbrev pub IsFunctionStructured : Func → Type 0
IsFunctionStructured f = IsStructured f.lines

-- No rule is broken (SPIR-V 2.16; Vulkan, A.1).
pub record IsValid (body : List Inst) : Type 0 where
  pub built : IsKept body built_rule
  pub kept : All (IsKept body) rules
  pub structured : All IsFunctionStructured (whole (lines_of body)).functions

-- No line breaks one of the rules 1 to 44, and the module lacks nothing.
pub record IsUnbroken (body : List Inst) : Type 0 where
  pub built : IsKept body built_rule
  pub intact : (n : ℕ) → IsIntact body n

-- A module is valid exactly where that is so.
abbrev pub ValidIsUnbroken : Type 0
ValidIsUnbroken = (body : List Inst) → (IsValid body → IsUnbroken body) × (IsUnbroken body → IsValid body)

-- There is no second least broken rule, and no second word of it.
abbrev pub OneLeastBroken : Type 0
OneLeastBroken = (body : List Inst) (n m word other : ℕ) → IsLeastBroken body n word → IsLeastBroken body m other → (n ≡ m) × (word ≡ other)

-- some rule is the least broken
pub record HasLeastBroken (body : List Inst) : Type 0 where
  pub number : ℕ
  pub word : ℕ
  pub least : IsLeastBroken body number word

-- Where some rule is broken there is a least.
abbrev pub SomeLeastBroken : Type 0
SomeLeastBroken = (body : List Inst) → HasLeastBroken body ⊎ ((n : ℕ) → IsIntact body n)
