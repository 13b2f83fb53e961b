-- Constants of the unit, with their bytes.
use Rattle.std.proofs.Common.{◌≡◌, ℕ, Bool, true, false, true≢false, not, ◌&&◌, ◌||◌, List, [], ◌∷◌, length, Option, Some, None, is_some, refl, sym, ap, ◌∙◌, subst}
use Rattle.clv_place.specs.declared.stop.Stop.{Stop}
use Rattle.clv_place.specs.declared.stop.Stop.TheVariants.{Out, NoMemory}
use Rattle.cl_types.specs.declared.types.ClType.{ClType}
use Rattle.cl_types.specs.declared.types.TypeId.{TypeId}
use Rattle.cl_types.specs.declared.space.Space.TheVariants as space
use Rattle.cl_builtins.specs.Found.{IsGrown}
use Rattle.cl_ast.specs.declared.declaration.Init.{Init}
use Rattle.cl_ast.specs.declared.declaration.Init.TheVariants as init
use Rattle.cl_ast.specs.declared.declaration.InitDeclor.{InitDeclor}
use Rattle.cl_tree.specs.declared.expression.TExpr.{TExpr}
use Rattle.cl_rules.specs.declared.rule.Qualified.{Qualified}
use Rattle.cl_rules.specs.Operands.{first_broken}
use Rattle.cl_scope.specs.declared.scope.DeclaredKind.{DeclaredKind}
use Rattle.cl_scope.specs.declared.scope.DeclaredKind.TheVariants as kind
use Rattle.cl_scope.specs.Names.{Env}
use Rattle.cl_scope.specs.Scopes.{IsKnownEnv}
use Rattle.cl_words.specs.declared.naming.Sketch.{Sketch}
use Rattle.cl_words.specs.Words.{is_open}
use Rattle.cl_types.specs.Table.{IsTable}
use Rattle.cl_make.specs.Ready.{From}
use Rattle.cl_make.proofs.Stays.{from_now}
use Rattle.cl_typing.proofs.Lasting.{variable_lasts}
use Rattle.cl_variables.specs.declared.declaring.VariableRead.{VariableRead}
use Rattle.cl_variables.specs.declared.declaring.Where.TheVariants.{AtFileScope}
use Rattle.cl_variables.specs.Answers.{again_at, VariableIs, VariableStops}
use Rattle.cl_variables.specs.Bytes.{HasBytes}
use Rattle.cl_variables.specs.Declarations.{IsInitialised, IsVariable, VariableOffends, is_braced, is_local, whole_tests, whole_tests_at, open_large, open_deep, init_list, init_open_list, init_over_list, init_value, init_wrong_value, no_init}
use Rattle.cl_variables.specs.Initialisers.{clean, only}
use Rattle.cl_variables.specs.declared.tally.Tally.{Tally}
use Rattle.cl_typing.specs.declared.unit_state.UnitState.{UnitState}
use Rattle.cl_typing.specs.UnitAnswers.{ConstantIs, ConstantStops}
use Rattle.cl_typing.specs.Units.{and_constant, constant_of, ConstantsDeclared, SomeConstantOffends, one_declared, this_constant, later_constant}

-- ---- a constant has an initialiser

some_none : {A : Type 0} {x : A} → Some x ≡ None → ⊥
some_none e = true≢false (ap is_some e)

whole_kept : (a b c d e f g : Bool) → first_broken ((304, a) ∷ (311, b) ∷ (325, c) ∷ (326, d) ∷ (333, e) ∷ (501, f) ∷ (502, g) ∷ []) ≡ None → (b ≡ false) × (c ≡ false) × (e ≡ false) × ((f || g) ≡ false)
whole_kept true b c d e f g h = absurd (some_none h)
whole_kept false true c d e f g h = absurd (some_none h)
whole_kept false false true d e f g h = absurd (some_none h)
whole_kept false false false true e f g h = absurd (some_none h)
whole_kept false false false false true f g h = absurd (some_none h)
whole_kept false false false false false true g h = absurd (some_none h)
whole_kept false false false false false false true h = absurd (some_none h)
whole_kept false false false false false false false h = (refl, refl, refl, refl)

file_kept : (k : Sketch) (i : Option Init) (tally : Tally) (large deep : Bool) → first_broken (whole_tests_at AtFileScope k i tally large deep) ≡ None → (tally.no_value ≡ false) × ((not (is_some i) || tally.varies) ≡ false) × (tally.no_pointer ≡ false) × ((large || deep) ≡ false)
file_kept k i tally large deep h = whole_kept (is_open k.lengths && not (is_braced i)) tally.no_value (not (is_some i) || tally.varies) (is_local space.Constant && is_some i) tally.no_pointer large deep h

both_false : (a b : Bool) → a ≡ false → b ≡ false → not (a || b) ≡ false → ⊥
both_false true b e f h = true≢false e
both_false false true e f h = true≢false f
both_false false false e f h = true≢false h

tree_at_file : (cs : List ClType) (constant : Bool) (env : Env) (i : Option Init) (k : Sketch) (ty : TypeId) (behind : Env) (t : Option TExpr) (n : ℕ) (tally : Tally) → IsInitialised cs constant env i k ty behind t n tally → first_broken (whole_tests cs AtFileScope k i tally n) ≡ None → is_some t ≡ true
tree_at_file cs constant _ _ _ _ _ _ _ _ (no_init env k ty) h = absurd (true≢false (file_kept k None clean (open_large cs k 1) (open_deep cs k 1) h).1)
tree_at_file cs constant _ _ _ _ _ _ _ _ (init_value env after e k ty t u o varies tally h0 h1 h2 h3) h = refl
tree_at_file cs constant _ _ _ _ _ _ _ _ (init_wrong_value env after e k ty t o varies tally h0 h1 h2) h =
    let a = file_kept k (Some (init.Value e)) tally (open_large cs k 1) (open_deep cs k 1) h in absurd (both_false tally.no_value tally.no_pointer a.0 a.2 h2)
tree_at_file cs constant _ _ _ _ _ _ _ _ (init_list env after place items k ty t varies h0 h1) h = refl
tree_at_file cs constant _ _ _ _ _ _ _ _ (init_open_list env after place items k ty elem whole len n nested ts t varies h0 h1 h2 h3 h4) h = refl
tree_at_file cs constant _ _ _ _ _ _ _ _ (init_over_list env after place items k ty elem len n nested ts varies h0 h1 h2 h3) h =
    let a = file_kept k (Some (init.Braces place items)) (only varies) (open_large cs k n) (open_deep cs k n) h in absurd (true≢false (sym h3 ∙ a.3))

pub constant_has_tree : (cs : List ClType) (kind : DeclaredKind) (env : Env) (q : Qualified) (d : InitDeclor) (after : Env) (r : VariableRead) → IsVariable cs AtFileScope kind (again_at AtFileScope) env q d after r.variable.name r.variable.place r.variable.ty r.variable.space r.tree → is_some r.tree ≡ true
constant_has_tree cs kind env q d after r h = tree_at_file cs _ _ _ _ _ _ _ _ _ h.initialised h.whole

-- ---- a constant before whatever constants are behind it

module _ (cs : List ClType) (q : Qualified) (u : UnitState) (d : InitDeclor) (n : ℕ) (number : n ≡ length u.constants) where
  pub constant_out : (x : Stop) → VariableStops cs AtFileScope (kind.Constant n) u.env q d x → ConstantStops cs q u d x
  constant_out NoMemory h = tt
  constant_out (Out o) h = λ more m ds. this_constant u q d ds o (subst (λ z. VariableOffends more AtFileScope (kind.Constant z) (again_at AtFileScope) u.env q d o) number (h more m))

  pub constant_typed : (env : Env) (r : VariableRead) (t : TExpr) (bytes : List ℕ) (after : UnitState) → VariableIs cs AtFileScope (kind.Constant n) u.env q d env r → r.tree ≡ Some t → From cs (λ more. HasBytes more t bytes)
      → after ≡ and_constant env (constant_of r.variable.name r.variable.ty r.variable.space r.variable.place bytes) u → ConstantIs cs q u d after
  constant_typed env r t bytes after h some has is =
      let declared : (more : List ClType) → IsGrown cs more → IsVariable more AtFileScope (kind.Constant (length u.constants)) (again_at AtFileScope) u.env q d env r.variable.name r.variable.place r.variable.ty r.variable.space (Some t)
      = λ more m. subst (λ z. IsVariable more AtFileScope (kind.Constant (length u.constants)) (again_at AtFileScope) u.env q d env r.variable.name r.variable.place r.variable.ty r.variable.space z) some
      (subst (λ z. IsVariable more AtFileScope (kind.Constant z) (again_at AtFileScope) u.env q d env r.variable.name r.variable.place r.variable.ty r.variable.space r.tree) number (h.is more m)) in
      record {
        constants = λ more m ds last rest.
            one_declared u last q d ds env r.variable.name r.variable.place r.variable.ty r.variable.space t bytes (declared more m) (has more m) (subst (λ z. ConstantsDeclared more z q ds last) is rest);
        stops = λ more m ds o rest.
            later_constant u q d ds env r.variable.name r.variable.place r.variable.ty r.variable.space t bytes o (declared more m) (has more m) (subst (λ z. SomeConstantOffends more z q ds o) is rest);
        known = subst (λ z. IsKnownEnv cs z.env) (sym is) h.known;
      }

  pub constant_declared : IsTable cs → (env : Env) (r : VariableRead) (t : TExpr) (bytes : List ℕ) (after : UnitState) → VariableIs cs AtFileScope (kind.Constant n) u.env q d env r → r.tree ≡ Some t → HasBytes cs t bytes
      → after ≡ and_constant env (constant_of r.variable.name r.variable.ty r.variable.space r.variable.place bytes) u → ConstantIs cs q u d after
  constant_declared b env r t bytes after h some has is =
      let now : IsVariable cs AtFileScope (kind.Constant n) (again_at AtFileScope) u.env q d env r.variable.name r.variable.place r.variable.ty r.variable.space r.tree
      = from_now cs (λ more. IsVariable more AtFileScope (kind.Constant n) (again_at AtFileScope) u.env q d env r.variable.name r.variable.place r.variable.ty r.variable.space r.tree) h.is in
      let declared : IsVariable cs AtFileScope (kind.Constant n) (again_at AtFileScope) u.env q d env r.variable.name r.variable.place r.variable.ty r.variable.space (Some t)
      = subst (λ z. IsVariable cs AtFileScope (kind.Constant n) (again_at AtFileScope) u.env q d env r.variable.name r.variable.place r.variable.ty r.variable.space z) some now in
      constant_typed env r t bytes after h some (variable_lasts cs AtFileScope (kind.Constant n) (again_at AtFileScope) u.env q d env r.variable.name r.variable.place r.variable.ty r.variable.space t b declared bytes has) is

  pub constant_read_tree : (env : Env) (r : VariableRead) → VariableIs cs AtFileScope (kind.Constant n) u.env q d env r → is_some r.tree ≡ true
  constant_read_tree env r h = constant_has_tree cs (kind.Constant n) u.env q d env r (from_now cs (λ more. IsVariable more AtFileScope (kind.Constant n) (again_at AtFileScope) u.env q d env r.variable.name r.variable.place r.variable.ty r.variable.space r.tree) h.is)
