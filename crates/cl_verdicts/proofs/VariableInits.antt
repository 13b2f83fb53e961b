-- Initialisers of declared names: what they come to, and that it is one outcome, whatever numbers types have.
use Rattle.std.proofs.Common.{◌≡◌, ℕ, List, [], refl, sym, ap, ◌∙◌, subst, Bool, true, false, Option, Some, None}
use Rattle.clv_place.specs.declared.stop.Offence.{Offence}
use Rattle.clv_place.specs.declared.place.Place.{Place}
use Rattle.cl_types.specs.declared.types.ClType.{ClType}
use Rattle.cl_types.specs.declared.types.TypeId.{TypeId}
use Rattle.cl_types.specs.Table.{AreBuilt}
use Rattle.cl_ast.specs.declared.declaration.Init.{Init}
use Rattle.cl_ast.specs.declared.declaration.Init.TheVariants as init
use Rattle.cl_ast.specs.declared.expression.Expr.{Expr}
use Rattle.cl_tree.specs.declared.expression.TExpr.{TExpr}
use Rattle.cl_tree.specs.declared.shape.Shape.TheVariants as shape
use Rattle.cl_tree.specs.Shapes.{shape_of}
use Rattle.cl_scope.specs.Names.{Env}
use Rattle.cl_words.specs.declared.naming.Sketch.{Sketch}
use Rattle.cl_words.specs.Words.{is_open}
use Rattle.cl_variables.specs.declared.tally.Tally.{Tally}
use Rattle.cl_variables.specs.Initialisers.{clean, only, tally_of}
use Rattle.cl_variables.specs.Declarations.{IsInitialised, no_init, init_value, init_wrong_value, init_list, init_open_list, init_over_list, InitOffends, in_init_value, in_init_list, in_init_open_list}
use Rattle.cl_renaming.specs.Renaming.{type_id, shape_as, sketch_as, env_as, IsRenaming, AreTypes}
use Rattle.cl_verdicts.proofs.VariableOutcomes.{Outcome, gives, stops, outcome_as, Valuing, valuing, valuing_as, Listing, listing, listing_as, Counting, counting, counting_as, Item, one, braces, item_of, item_if, value_item, braces_item}
use Rattle.cl_verdicts.proofs.VariableValues.{ValueComes, value_gives, value_stops, tally_of_as, value_one}
use Rattle.cl_verdicts.proofs.VariableFillings.{ListComes, list_comes, list_breaks, OpenListComes, open_list_comes, open_list_breaks}
use Rattle.cl_verdicts.proofs.VariableLists.{array_elem, so_not, shape_there, list_one, open_list_one}

-- one value, and one list
abbrev pub valued : List ClType → TypeId → Outcome Valuing → Outcome Counting
valued cs ty (gives v) = gives (counting v.env 1 (tally_of cs v.operand ty v.varies))
valued cs ty (stops o) = stops o

abbrev pub listed : Outcome Listing → Outcome Counting
listed (gives l) = gives (counting l.env 1 (only l.varies))
listed (stops o) = stops o

pub data InitComes (cs : List ClType) (constant : Bool) : Env → Option Item → Sketch → TypeId → Outcome Counting → Type 0 where
  comes_none : (env : Env) (k : Sketch) (ty : TypeId) → InitComes cs constant env None k ty (gives (counting env 1 clean))
  comes_value : (env : Env) (x : Expr) (k : Sketch) (ty : TypeId) (v : Outcome Valuing) → ValueComes cs constant env x v → InitComes cs constant env (Some (one x)) k ty (valued cs ty v)
  comes_list : (env : Env) (place : Place) (items : List Init) (k : Sketch) (ty : TypeId) (v : Outcome Listing) → is_open k.lengths ≡ false → ListComes cs constant env place items ty v → InitComes cs constant env (Some (braces place items)) k ty (listed v)
  comes_open : (env : Env) (place : Place) (items : List Init) (k : Sketch) (ty elem : TypeId) (len : ℕ) (nested : Bool) (v : Outcome Counting) → is_open k.lengths ≡ true → shape_of cs ty ≡ shape.Array elem len nested → OpenListComes cs constant env place items elem v → InitComes cs constant env (Some (braces place items)) k ty v

-- ---- each judgement comes to it

module _ (cs : List ClType) (constant : Bool) where
  by_one_value : (env : Env) (x : Expr) (k : Sketch) (ty : TypeId) (v : Outcome Valuing) (w : Outcome Counting) → ValueComes cs constant env x v → valued cs ty v ≡ w → InitComes cs constant env (Some (item_of (init.Value x))) k ty w
  by_one_value env x k ty v w h e =
      subst (λ i. InitComes cs constant env (Some i) k ty w) (sym (value_item x)) (subst (InitComes cs constant env (Some (one x)) k ty) e (comes_value env x k ty v h))

  pub init_comes : (env : Env) (i : Option Init) (k : Sketch) (ty : TypeId) (after : Env) (t : Option TExpr) (n : ℕ) (tally : Tally) → IsInitialised cs constant env i k ty after t n tally → InitComes cs constant env (item_if i) k ty (gives (counting after n tally))
  init_comes _ _ _ _ _ _ _ _ (no_init env k ty) = comes_none env k ty
  init_comes _ _ _ _ _ _ _ _ (init_value env after x k ty t u o varies tally h h1 h2 h3) =
      by_one_value env x k ty (gives (valuing after o varies)) (gives (counting after 1 tally)) (value_gives env after x t o varies h) (ap (λ z. gives (counting after 1 z)) (sym h1))
  init_comes _ _ _ _ _ _ _ _ (init_wrong_value env after x k ty t o varies tally h h1 h2) =
      by_one_value env x k ty (gives (valuing after o varies)) (gives (counting after 1 tally)) (value_gives env after x t o varies h) (ap (λ z. gives (counting after 1 z)) (sym h1))
  init_comes _ _ _ _ _ _ _ _ (init_list env after place items k ty t varies h h1) =
      subst (λ i. InitComes cs constant env (Some i) k ty (gives (counting after 1 (only varies)))) (sym (braces_item place items))
      (comes_list env place items.items k ty (gives (listing after varies)) h (list_comes cs constant _ _ _ _ _ _ _ h1))
  init_comes _ _ _ _ _ _ _ _ (init_open_list env after place items k ty elem whole len n nested ts t varies h h1 h2 h3 h4) =
      subst (λ i. InitComes cs constant env (Some i) k ty (gives (counting after n (only varies)))) (sym (braces_item place items))
      (comes_open env place items.items k ty elem len nested (gives (counting after n (only varies))) h h1 (open_list_comes cs constant env place items.items elem after n ts varies h2))
  init_comes _ _ _ _ _ _ _ _ (init_over_list env after place items k ty elem len n nested ts varies h h1 h2 h3) =
      subst (λ i. InitComes cs constant env (Some i) k ty (gives (counting after n (only varies)))) (sym (braces_item place items))
      (comes_open env place items.items k ty elem len nested (gives (counting after n (only varies))) h h1 (open_list_comes cs constant env place items.items elem after n ts varies h2))

  pub init_breaks : (env : Env) (i : Init) (k : Sketch) (ty : TypeId) (o : Offence) → InitOffends cs constant env i k ty o → InitComes cs constant env (Some (item_of i)) k ty (stops o)
  init_breaks _ _ _ _ _ (in_init_value env x k ty o h) =
      subst (λ i. InitComes cs constant env (Some i) k ty (stops o)) (sym (value_item x)) (comes_value env x k ty (stops o) (value_stops env x o h))
  init_breaks _ _ _ _ _ (in_init_list env place items k ty o h h1) =
      subst (λ i. InitComes cs constant env (Some i) k ty (stops o)) (sym (braces_item place items)) (comes_list env place items.items k ty (stops o) h (list_breaks cs constant _ _ _ _ _ h1))
  init_breaks _ _ _ _ _ (in_init_open_list env place items k ty elem len nested o h h1 h2) =
      subst (λ i. InitComes cs constant env (Some i) k ty (stops o)) (sym (braces_item place items)) (comes_open env place items.items k ty elem len nested (stops o) h h1 (open_list_breaks cs constant _ _ _ _ _ h2))

-- ---- one outcome

listed_as : (r : ℕ → ℕ) (v : Outcome Listing) → listed (outcome_as (listing_as r) v) ≡ outcome_as (counting_as r) (listed v)
listed_as r (gives l) = refl
listed_as r (stops o) = refl

module _ (cs ds : List ClType) (r : ℕ → ℕ) (e : IsRenaming cs ds r) (bc : AreBuilt [] cs) (b : AreTypes ds) (constant : Bool) where
  valued_as : (ty : TypeId) (v : Outcome Valuing) → valued ds (type_id r ty) (outcome_as (valuing_as r) v) ≡ outcome_as (counting_as r) (valued cs ty v)
  valued_as ty (gives v) = ap (λ z. gives (counting (env_as r v.env) 1 z)) (tally_of_as cs ds r e v.operand ty v.varies)
  valued_as ty (stops o) = refl

  open_there : (k k2 : Sketch) → k2 ≡ sketch_as r k → is_open k2.lengths ≡ is_open k.lengths
  open_there k k2 f = ap (λ z. is_open z.lengths) f

  pub init_one : (env : Env) (i : Option Item) (k : Sketch) (ty : TypeId) (v : Outcome Counting) → InitComes cs constant env i k ty v → (env2 : Env) (k2 : Sketch) (ty2 : TypeId) (w : Outcome Counting) → env2 ≡ env_as r env → k2 ≡ sketch_as r k → ty2 ≡ type_id r ty → InitComes ds constant env2 i k2 ty2 w → w ≡ outcome_as (counting_as r) v
  init_one _ _ _ _ _ (comes_none env k ty) _ _ _ _ f p g (comes_none env2 k2 ty2) = λ i. gives (counting (f i) 1 clean)
  init_one _ _ _ _ _ (comes_value env x k ty v h) _ _ _ _ f p g (comes_value env2 x2 k2 ty2 w l) =
      let s = value_one cs ds r e bc b constant env x v h env2 w f l in
      (λ i. valued ds (g i) (s i)) ∙ valued_as ty v
  init_one _ _ _ _ _ (comes_list env place items k ty v h h1) _ _ _ _ f p g (comes_list env2 place2 items2 k2 ty2 w l l1) =
      ap listed (list_one cs ds r e bc b constant _ _ _ _ _ h1 env2 ty2 w f g l1) ∙ listed_as r v
  init_one _ _ _ _ _ (comes_list env place items k ty v h h1) _ _ _ _ f p g (comes_open env2 place2 items2 k2 ty2 elem2 len2 nested2 w l l1 l2) =
      so_not (is_open k2.lengths) (is_open k.lengths) (sym (open_there k k2 p)) l h
  init_one _ _ _ _ _ (comes_open env place items k ty elem len nested v h h1 h2) _ _ _ _ f p g (comes_list env2 place2 items2 k2 ty2 w l l1) =
      so_not (is_open k.lengths) (is_open k2.lengths) (open_there k k2 p) h l
  init_one _ _ _ _ _ (comes_open env place items k ty elem len nested v h h1 h2) _ _ _ _ f p g (comes_open env2 place2 items2 k2 ty2 elem2 len2 nested2 w l l1 l2) =
      let s : shape.Array elem2 len2 nested2 ≡ shape.Array (type_id r elem) len nested = sym l1 ∙ shape_there cs ds r e bc b constant ty ty2 g ∙ ap (shape_as r) h1 in
      open_list_one cs ds r e bc b constant _ _ _ _ _ h2 env2 elem2 w f (array_elem (type_id r elem) elem2 len len2 nested nested2 s) l2
