-- Declared variables: what they come to, and that it is one outcome, whatever numbers types have.
use Rattle.std.proofs.Common.{◌≡◌, ℕ, List, [], ◌∷◌, refl, sym, ap, ◌∙◌, subst, Bool, true, not, ◌&&◌, ◌||◌, Option, Some, None}
use Rattle.std.specs.Prelude.{is_some}
use Rattle.clv_place.specs.declared.stop.Offence.{Offence}
use Rattle.clv_place.specs.declared.place.Place.{Place}
use Rattle.cl_types.specs.declared.types.ClType.{ClType}
use Rattle.cl_types.specs.declared.types.TypeId.{TypeId}
use Rattle.cl_types.specs.declared.space.Space.{Space}
use Rattle.cl_types.specs.Table.{AreBuilt}
use Rattle.cl_ast.specs.declared.declaration.Init.{Init}
use Rattle.cl_ast.specs.declared.declaration.InitDeclor.{InitDeclor}
use Rattle.cl_ast.specs.declared.expression.Base.TheViews.{out-Declor}
use Rattle.cl_ast.specs.declared.expression.Declor.{Declor}
use Rattle.cl_ast.specs.declared.expression.Expr.{Expr}
use Rattle.cl_ast.specs.declared.expression.Qual.{Qual}
use Rattle.cl_tree.specs.declared.expression.TExpr.{TExpr}
use Rattle.cl_tree.specs.Shapes.{is_void}
use Rattle.cl_rules.specs.declared.rule.Qualified.{Qualified}
use Rattle.cl_rules.specs.Operands.{first_broken}
use Rattle.cl_scope.specs.declared.scope.DeclaredKind.{DeclaredKind}
use Rattle.cl_scope.specs.Names.{Env, declare, find_function}
use Rattle.cl_words.specs.declared.naming.Length.{Length}
use Rattle.cl_words.specs.declared.naming.Sketch.{Sketch}
use Rattle.cl_words.specs.Words.{sketch, is_open, some_wrong, is_no_element, declared_tree, is_large, is_deep}
use Rattle.cl_make.specs.Wanted.{IsDeclaredAs}
use Rattle.cl_make.proofs.Growing.{none_some, some_same}
use Rattle.cl_type_expr.specs.Expressions.{AreLengths}
use Rattle.cl_type_expr.specs.Offences.{at, LengthOffends}
use Rattle.cl_type_expr.specs.Syntax.{IsDeclor}
use Rattle.cl_variables.specs.declared.declaring.Where.{Where}
use Rattle.cl_variables.specs.declared.declaring.Where.TheVariants.{AtFileScope, InKernel, Inside}
use Rattle.cl_variables.specs.declared.tally.Tally.{Tally}
use Rattle.cl_variables.specs.Answers.{again_at}
use Rattle.cl_variables.specs.Declarations.{space_at, is_private, is_file, no_space_at, name_tests_at, name_tests, whole_tests_at, whole_tests, variable, IsVariable, VariableOffends, in_lengths, broken_name, in_init, broken_whole}
use Rattle.cl_renaming.specs.Renaming.{type_id, qualified_as, sketch_as, signature_as, env_as, IsRenaming, AreTypes, IsOneType}
use Rattle.cl_renaming.proofs.Shapes.{is_void_as}
use Rattle.cl_renaming.proofs.Scopes.{is_some_as, find_function_as, is_declared_in_as}
use Rattle.cl_renaming.proofs.Wants.{declared_one}
use Rattle.cl_renaming.proofs.Words.{sketch_of_as, is_no_element_as, no_declared_type_as, is_declared_as, declared_tree_as}
use Rattle.cl_renaming.proofs.Agreement.{sketch_one, are_lengths_same}
use Rattle.cl_renaming.proofs.Excluded.{lengths_no_offence}
use Rattle.cl_renaming.proofs.Excluding.{offence_no_lengths}
use Rattle.cl_renaming.proofs.OneOffence.{lengths_one}
use Rattle.cl_verdicts.proofs.VariableOutcomes.{Outcome, gives, stops, outcome_as, gives_same, gives_stops, stops_same, Counting, counting, counting_as, Making, making, making_as, item_if}
use Rattle.cl_verdicts.proofs.VariableInits.{InitComes, init_comes, init_breaks, init_one}

-- ---- declared names

pub record Named : Type 0 where
  pub star : Option (List Qual)
  pub name : List ℕ
  pub place : Place
  pub lengths : List (Option Expr)

abbrev pub named : Option (List Qual) → List ℕ → Place → List (Option Expr) → Named
named star name place es = record { star = star; name = name; place = place; lengths = es }

abbrev pub named_by : Declor → Named
named_by d = named (out-Declor d).star (out-Declor d).name (out-Declor d).place (out-Declor d).lengths.items

named_same : (d : Declor) (star : Option (List Qual)) (name : List ℕ) (place : Place) (es : List (Option Expr)) → IsDeclor d star name place es → named star name place es ≡ named_by d
named_same d star name place es h = sym (λ i. named (h.behind i) (h.is i) (h.at i) (h.has i))

-- ---- what they come to

-- the name with its initialiser
pub data WholeComes (cs : List ClType) (w : Where) (kind : DeclaredKind) (init : Option Init) (n : Named) (k : Sketch) : Outcome Counting → Outcome Making → Type 0 where
  whole_never : (o : Offence) → WholeComes cs w kind init n k (stops o) (stops o)
  whole_breaks : (c : Counting) (code : ℕ) → first_broken (whole_tests cs w k init c.tally c.count) ≡ Some code → WholeComes cs w kind init n k (gives c) (stops (at code n.place))
  whole_stands : (c : Counting) (ty : TypeId) → first_broken (whole_tests cs w k init c.tally c.count) ≡ None → IsDeclaredAs cs k c.count ty → WholeComes cs w kind init n k (gives c) (gives (making (declare (variable w n.name ty k kind true) c.env) ty (space_at w k.space)))

pub data VariableComes (cs : List ClType) (w : Where) (kind : DeclaredKind) (init : Option Init) (n : Named) : Env → Qualified → Outcome Making → Type 0 where
  lengths_break : (env : Env) (q : Qualified) (o : Offence) → LengthOffends cs env true n.lengths o → VariableComes cs w kind init n env q (stops o)
  name_breaks : (env typed : Env) (q : Qualified) (ls : List Length) (code : ℕ) → AreLengths cs env true n.lengths typed ls → first_broken (name_tests cs w (again_at w typed n.name) (sketch q n.star ls)) ≡ Some code → VariableComes cs w kind init n env q (stops (at code n.place))
  name_stands : (env typed : Env) (q : Qualified) (ls : List Length) (first : TypeId) (v : Outcome Counting) (z : Outcome Making) → AreLengths cs env true n.lengths typed ls → first_broken (name_tests cs w (again_at w typed n.name) (sketch q n.star ls)) ≡ None → IsDeclaredAs cs (sketch q n.star ls) 1 first → InitComes cs (is_file w) (declare (variable w n.name first (sketch q n.star ls) kind (not (is_open ls))) typed) (item_if init) (sketch q n.star ls) first v → WholeComes cs w kind init n (sketch q n.star ls) v z → VariableComes cs w kind init n env q z

-- ---- each judgement comes to it

module _ (cs : List ClType) (w : Where) (kind : DeclaredKind) where
  to_own : (d : InitDeclor) (star : Option (List Qual)) (name : List ℕ) (place : Place) (es : List (Option Expr)) (env : Env) (q : Qualified) (v : Outcome Making) → IsDeclor d.name star name place es → VariableComes cs w kind d.init (named star name place es) env q v → VariableComes cs w kind d.init (named_by d.name) env q v
  to_own d star name place es env q v h x = subst (λ n. VariableComes cs w kind d.init n env q v) (named_same d.name star name place es h) x

  pub variable_comes : (env : Env) (q : Qualified) (d : InitDeclor) (after : Env) (name : List ℕ) (place : Place) (ty : TypeId) (own : Space) (t : Option TExpr) → IsVariable cs w kind (again_at w) env q d after name place ty own t → VariableComes cs w kind d.init (named_by d.name) env q (gives (making after ty own))
  variable_comes env q d after name place ty own t h =
      let n : Named = named h.star name place h.es in
      let k : Sketch = sketch q h.star h.ls in
      to_own d h.star name place h.es env q (gives (making after ty own)) h.is
      (name_stands env h.typed q h.ls h.first (gives (counting h.behind h.n h.tally)) (gives (making after ty own)) h.lengths h.fits h.of (init_comes cs (is_file w) _ _ _ _ _ _ _ _ h.initialised)
      (subst (WholeComes cs w kind d.init n k (gives (counting h.behind h.n h.tally))) (λ i. gives (making (sym h.scope i) ty (sym h.in_space i))) (whole_stands (counting h.behind h.n h.tally) ty h.whole h.gives)))

  pub variable_breaks : (env : Env) (q : Qualified) (d : InitDeclor) (o : Offence) → VariableOffends cs w kind (again_at w) env q d o → VariableComes cs w kind d.init (named_by d.name) env q (stops o)
  variable_breaks _ _ _ _ (in_lengths env q d star name place es o h h1) = to_own d star name place es env q (stops o) h (lengths_break env q o h1)
  variable_breaks _ _ _ _ (broken_name env typed q d star name place es ls code h h1 h2) = to_own d star name place es env q (stops (at code place)) h (name_breaks env typed q ls code h1 h2)
  variable_breaks _ _ _ _ (in_init env typed q d star name place es ls first i o h h1 h2 h3 h4 h5) =
      to_own d star name place es env q (stops o) h
      (name_stands env typed q ls first (stops o) (stops o) h1 h2 h3
      (subst (λ z. InitComes cs (is_file w) (declare (variable w name first (sketch q star ls) kind (not (is_open ls))) typed) (item_if z) (sketch q star ls) first (stops o)) (sym h4) (init_breaks cs (is_file w) _ _ _ _ _ h5))
      (whole_never o))
  variable_breaks _ _ _ _ (broken_whole env typed behind q d star name place es ls first t n tally code h h1 h2 h3 h4 h5) =
      to_own d star name place es env q (stops (at code place)) h
      (name_stands env typed q ls first (gives (counting behind n tally)) (stops (at code place)) h1 h2 h3 (init_comes cs (is_file w) _ _ _ _ _ _ _ _ h4) (whole_breaks (counting behind n tally) code h5))

-- ---- one outcome

-- two tests that are one break alike
codes_one : (xs ys : List (ℕ × Bool)) (c d : ℕ) → ys ≡ xs → first_broken xs ≡ Some c → first_broken ys ≡ Some d → d ≡ c
codes_one xs ys c d f x y = some_same d c (sym y ∙ ap first_broken f ∙ x)

codes_none : {A : Type 0} (xs ys : List (ℕ × Bool)) (c : ℕ) → ys ≡ xs → first_broken xs ≡ Some c → first_broken ys ≡ None → A
codes_none xs ys c f x y = absurd (none_some (sym y ∙ ap first_broken f ∙ x))

module _ (r : ℕ → ℕ) where
  again_as : (w : Where) (env : Env) (name : List ℕ) → again_at w (env_as r env) name ≡ again_at w env name
  again_as AtFileScope env name = λ i. is_declared_in_as r env name i || ((ap is_some (find_function_as r env name) ∙ is_some_as (signature_as r) (find_function env name)) i)
  again_as InKernel env name = is_declared_in_as r env name
  again_as Inside env name = is_declared_in_as r env name

  name_tests_at_as : (w : Where) (again : Bool) (k : Sketch) (large deep : Bool) → name_tests_at w again (sketch_as r k) large deep ≡ name_tests_at w again k large deep
  name_tests_at_as w again k large deep = λ i.
      (302, again)
      ∷ (303, no_declared_type_as r k i || is_declared_as r is_void k (is_void_as r k.shape) i || (not (is_private (space_at w k.space)) && is_declared_as r is_no_element k (is_no_element_as r k.shape) i))
      ∷ (304, some_wrong k.lengths) ∷ (326, k.clash || no_space_at w k.space) ∷ (501, large) ∷ (502, deep) ∷ []

  scope_there : (w : Where) (name : List ℕ) (ty ty2 : TypeId) (k k2 : Sketch) (kind : DeclaredKind) (complete : Bool) (env env2 : Env) → ty2 ≡ type_id r ty → k2 ≡ sketch_as r k → env2 ≡ env_as r env → declare (variable w name ty2 k2 kind complete) env2 ≡ env_as r (declare (variable w name ty k kind complete) env)
  scope_there w name ty ty2 k k2 kind complete env env2 g p f = λ i. declare (variable w name (g i) (p i) kind complete) (f i)

module _ (cs ds : List ClType) (r : ℕ → ℕ) (e : IsRenaming cs ds r) (bc : AreBuilt [] cs) (b : AreTypes ds) where
  name_tests_as : (w : Where) (again : Bool) (k : Sketch) → name_tests ds w again (sketch_as r k) ≡ name_tests cs w again k
  name_tests_as w again k =
      ap (λ t. name_tests_at w again (sketch_as r k) (is_large t) (is_deep t)) (declared_tree_as cs ds r bc b.built e k 1)
      ∙ name_tests_at_as r w again k (is_large (declared_tree cs k 1)) (is_deep (declared_tree cs k 1))

  whole_tests_as : (w : Where) (k : Sketch) (init : Option Init) (tally : Tally) (n : ℕ) → whole_tests ds w (sketch_as r k) init tally n ≡ whole_tests cs w k init tally n
  whole_tests_as w k init tally n = ap (λ t. whole_tests_at w k init tally (is_open k.lengths && is_large t) (is_open k.lengths && is_deep t)) (declared_tree_as cs ds r bc b.built e k n)

  module _ (w : Where) (kind : DeclaredKind) (init : Option Init) (n : Named) where
    names_there : (typed typed2 : Env) (k k2 : Sketch) → typed2 ≡ env_as r typed → k2 ≡ sketch_as r k → name_tests ds w (again_at w typed2 n.name) k2 ≡ name_tests cs w (again_at w typed n.name) k
    names_there typed typed2 k k2 f p = (λ i. name_tests ds w (again_at w (f i) n.name) (p i)) ∙ ap (λ a. name_tests ds w a (sketch_as r k)) (again_as r w typed n.name) ∙ name_tests_as w (again_at w typed n.name) k

    wholes_there : (c d : Counting) (k k2 : Sketch) → d ≡ counting_as r c → k2 ≡ sketch_as r k → whole_tests ds w k2 init d.tally d.count ≡ whole_tests cs w k init c.tally c.count
    wholes_there c d k k2 f p = (λ i. whole_tests ds w (p i) init (f i).tally (f i).count) ∙ whole_tests_as w k init c.tally c.count

    whole_one : (k : Sketch) (v : Outcome Counting) (z : Outcome Making) → WholeComes cs w kind init n k v z → (k2 : Sketch) (v2 : Outcome Counting) (z2 : Outcome Making) → IsOneType k.of → k2 ≡ sketch_as r k → v2 ≡ outcome_as (counting_as r) v → WholeComes ds w kind init n k2 v2 z2 → z2 ≡ outcome_as (making_as r) z
    whole_one k _ _ (whole_never o) k2 _ _ s p f (whole_never o2) = ap stops (stops_same o2 o (stops o2) refl f)
    whole_one k _ _ (whole_never o) k2 _ _ s p f (whole_breaks d code2 y) = gives_stops d o f
    whole_one k _ _ (whole_never o) k2 _ _ s p f (whole_stands d ty2 y y1) = gives_stops d o f
    whole_one k _ _ (whole_breaks c code x) k2 _ _ s p f (whole_never o2) = gives_stops (counting_as r c) o2 (sym f)
    whole_one k _ _ (whole_breaks c code x) k2 _ _ s p f (whole_breaks d code2 y) =
        ap (λ a. stops (at a n.place)) (codes_one (whole_tests cs w k init c.tally c.count) (whole_tests ds w k2 init d.tally d.count) code code2 (wholes_there c d k k2 (gives_same d (counting_as r c) f) p) x y)
    whole_one k _ _ (whole_breaks c code x) k2 _ _ s p f (whole_stands d ty2 y y1) =
        codes_none (whole_tests cs w k init c.tally c.count) (whole_tests ds w k2 init d.tally d.count) code (wholes_there c d k k2 (gives_same d (counting_as r c) f) p) x y
    whole_one k _ _ (whole_stands c ty x x1) k2 _ _ s p f (whole_never o2) = gives_stops (counting_as r c) o2 (sym f)
    whole_one k _ _ (whole_stands c ty x x1) k2 _ _ s p f (whole_breaks d code2 y) =
        codes_none (whole_tests ds w k2 init d.tally d.count) (whole_tests cs w k init c.tally c.count) code2 (sym (wholes_there c d k k2 (gives_same d (counting_as r c) f) p)) y x
    whole_one k _ _ (whole_stands c ty x x1) k2 _ _ s p f (whole_stands d ty2 y y1) =
        let g : d ≡ counting_as r c = gives_same d (counting_as r c) f in
        let t : ty2 ≡ type_id r ty = declared_one cs ds r e b k c.count ty ty2 s x1 (subst (λ m. IsDeclaredAs ds (sketch_as r k) m ty2) (ap (λ a. a.count) g) (subst (λ a. IsDeclaredAs ds a d.count ty2) p y1)) in
        λ i. gives (making (declare (variable w n.name (t i) (p i) kind true) (g i).env) (t i) (space_at w (p i).space))

    sketch_there : (q q2 : Qualified) (ls ls2 : List Length) → q2 ≡ qualified_as r q → ls2 ≡ ls → sketch q2 n.star ls2 ≡ sketch_as r (sketch q n.star ls)
    sketch_there q q2 ls ls2 g l = (λ i. sketch (g i) n.star (l i)) ∙ sketch_of_as r q n.star ls

    pub variable_one : (env : Env) (q : Qualified) (z : Outcome Making) → VariableComes cs w kind init n env q z → (env2 : Env) (q2 : Qualified) (z2 : Outcome Making) → env2 ≡ env_as r env → q2 ≡ qualified_as r q → VariableComes ds w kind init n env2 q2 z2 → z2 ≡ outcome_as (making_as r) z
    variable_one _ _ _ (lengths_break env q o x) _ _ _ f g (lengths_break env2 q2 o2 y) = ap stops (lengths_one cs ds r e bc b _ _ _ _ x env2 o2 f y)
    variable_one _ _ _ (lengths_break env q o x) _ _ _ f g (name_breaks env2 typed2 q2 ls2 code2 y y1) = absurd (offence_no_lengths cs ds r e bc b _ _ _ _ x env2 typed2 ls2 f y)
    variable_one _ _ _ (lengths_break env q o x) _ _ _ f g (name_stands env2 typed2 q2 ls2 first2 v2 z2 y y1 y2 y3 y4) = absurd (offence_no_lengths cs ds r e bc b _ _ _ _ x env2 typed2 ls2 f y)
    variable_one _ _ _ (name_breaks env typed q ls code x x1) _ _ _ f g (lengths_break env2 q2 o2 y) = absurd (lengths_no_offence cs ds r e bc b _ _ _ _ y env typed ls f x)
    variable_one _ _ _ (name_breaks env typed q ls code x x1) _ _ _ f g (name_breaks env2 typed2 q2 ls2 code2 y y1) =
        let a = are_lengths_same cs ds r e bc b _ _ _ _ _ x env2 typed2 ls2 f y in
        let p = sketch_there q q2 ls ls2 g a.1 in
        ap (λ c. stops (at c n.place))
        (codes_one (name_tests cs w (again_at w typed n.name) (sketch q n.star ls)) (name_tests ds w (again_at w typed2 n.name) (sketch q2 n.star ls2)) code code2 (names_there typed typed2 (sketch q n.star ls) (sketch q2 n.star ls2) a.0 p) x1 y1)
    variable_one _ _ _ (name_breaks env typed q ls code x x1) _ _ _ f g (name_stands env2 typed2 q2 ls2 first2 v2 z2 y y1 y2 y3 y4) =
        let a = are_lengths_same cs ds r e bc b _ _ _ _ _ x env2 typed2 ls2 f y in
        let p = sketch_there q q2 ls ls2 g a.1 in
        codes_none (name_tests cs w (again_at w typed n.name) (sketch q n.star ls)) (name_tests ds w (again_at w typed2 n.name) (sketch q2 n.star ls2)) code (names_there typed typed2 (sketch q n.star ls) (sketch q2 n.star ls2) a.0 p) x1 y1
    variable_one _ _ _ (name_stands env typed q ls first v z x x1 x2 x3 x4) _ _ _ f g (lengths_break env2 q2 o2 y) = absurd (lengths_no_offence cs ds r e bc b _ _ _ _ y env typed ls f x)
    variable_one _ _ _ (name_stands env typed q ls first v z x x1 x2 x3 x4) _ _ _ f g (name_breaks env2 typed2 q2 ls2 code2 y y1) =
        let a = are_lengths_same cs ds r e bc b _ _ _ _ _ x env2 typed2 ls2 f y in
        let p = sketch_there q q2 ls ls2 g a.1 in
        codes_none (name_tests ds w (again_at w typed2 n.name) (sketch q2 n.star ls2)) (name_tests cs w (again_at w typed n.name) (sketch q n.star ls)) code2 (sym (names_there typed typed2 (sketch q n.star ls) (sketch q2 n.star ls2) a.0 p)) y1 x1
    variable_one _ _ _ (name_stands env typed q ls first v z x x1 x2 x3 x4) _ _ _ f g (name_stands env2 typed2 q2 ls2 first2 v2 z2 y y1 y2 y3 y4) =
        let a = are_lengths_same cs ds r e bc b _ _ _ _ _ x env2 typed2 ls2 f y in
        let p = sketch_there q q2 ls ls2 g a.1 in
        let s = sketch_one cs ds r e bc b q n.star ls in
        let t : first2 ≡ type_id r first = declared_one cs ds r e b (sketch q n.star ls) 1 first first2 s x2 (subst (λ k. IsDeclaredAs ds k 1 first2) p y2) in
        let d : declare (variable w n.name first2 (sketch q2 n.star ls2) kind (not (is_open ls2))) typed2 ≡ env_as r (declare (variable w n.name first (sketch q n.star ls) kind (not (is_open ls))) typed) =
        (λ i. declare (variable w n.name first2 (sketch q2 n.star ls2) kind (not (is_open (a.1 i)))) typed2) ∙ scope_there r w n.name first first2 (sketch q n.star ls) (sketch q2 n.star ls2) kind (not (is_open ls)) typed typed2 t p a.0 in
        let i = init_one cs ds r e bc b (is_file w) _ _ _ _ _ x3 _ (sketch q2 n.star ls2) first2 v2 d p t y3 in
        whole_one (sketch q n.star ls) v z x4 (sketch q2 n.star ls2) v2 z2 s p i y4
