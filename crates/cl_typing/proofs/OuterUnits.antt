-- What the head of a function declares is declared in the innermost block.
use Rattle.std.proofs.Common.{◌≡◌, ℕ, Bool, List, [], length, Option, Some, None, refl, ◌∙◌}
use Rattle.cl_types.specs.declared.types.ClType.{ClType}
use Rattle.cl_types.specs.declared.types.TypeId.{TypeId}
use Rattle.cl_ast.specs.declared.declaration.FWord.{FWord}
use Rattle.cl_ast.specs.declared.declaration.Param.{Param}
use Rattle.cl_ast.specs.declared.expression.Expr.{Expr}
use Rattle.cl_tree.specs.declared.unit.Variable.{Variable}
use Rattle.cl_scope.specs.Names.{Env}
use Rattle.cl_words.specs.declared.naming.Sketch.{Sketch}
use Rattle.cl_words.specs.Words.{sketch}
use Rattle.cl_typing.specs.Units.{param_named, ConstantsAre, SizesAre, ParamsAre, more_constants, no_constant, no_word, other_word, required, more_params, no_param}
use Rattle.cl_typing.proofs.Outer.{types_outer, is_specified_outer}

param_outer : (name : Option (List ℕ)) (t : TypeId) (k : Sketch) (n : ℕ) (env : Env) → (param_named name t k n env).outer ≡ env.outer
param_outer None t k n env = refl
param_outer (Some name) t k n env = refl

pub constants_are_outer : (cs : List ClType) (i0 : Env) (i1 : List Expr) (i2 : Env) (i3 : List (Option ℕ)) → ConstantsAre cs i0 i1 i2 i3 → i2.outer ≡ i0.outer
constants_are_outer cs _ _ _ _ (no_constant p0) = refl
constants_are_outer cs _ _ _ _ (more_constants p0 p1 p2 p3 p4 p5 p6 p7 p8 h0 h1 h2 h3) = constants_are_outer cs _ _ _ _ h3 ∙ types_outer cs _ _ _ _ _ _ h0

pub sizes_are_outer : (cs : List ClType) (i0 : Env) (i1 : Bool) (i2 : List FWord) (i3 : Env) (i4 : Option (List ℕ)) → SizesAre cs i0 i1 i2 i3 i4 → i3.outer ≡ i0.outer
sizes_are_outer cs _ _ _ _ _ (no_word p0 p1) = refl
sizes_are_outer cs _ _ _ _ _ (other_word p0 p1 p2 p3 p4 p5 h0 h1) = sizes_are_outer cs _ _ _ _ _ h1
sizes_are_outer cs _ _ _ _ _ (required p0 p1 p2 p3 p4 p5 p6 p7 h0 h1 h2) = sizes_are_outer cs _ _ _ _ _ h2 ∙ constants_are_outer cs _ _ _ _ h0

pub params_are_outer : (cs : List ClType) (kernel : Bool) (i0 : Env) (i1 : List Variable) (i2 : List Param) (i3 : Env) (i4 : List Variable) → ParamsAre cs kernel i0 i1 i2 i3 i4 → i3.outer ≡ i0.outer
params_are_outer cs kernel _ _ _ _ _ (no_param p0 p1) = refl
params_are_outer cs kernel _ _ _ _ _ (more_params p0 p1 p2 p3 p4 p5 p6 p7 p8 h0 h1 h2 h3) = params_are_outer cs kernel _ _ _ _ _ h3 ∙ param_outer p5.name p8 (sketch p7 p5.star []) (length p3) p1 ∙ is_specified_outer cs _ _ _ _ h0
