-- The parts of two initialisers that say the same.
use Rattle.std.specs.Global.{Vec}
use Rattle.std.proofs.Common.{◌≡◌, List, [], ◌∷◌, map, refl, sym, ap, ◌∙◌, Option, Some, None, is_some}
use Rattle.clv_place.specs.declared.place.Place.{Place}
use Rattle.cl_ast.specs.declared.declaration.Init.{Init}
use Rattle.cl_ast.specs.declared.declaration.Init.TheVariants as init
use Rattle.cl_ast.specs.declared.declaration.Init.TheVariants.{rolls-Value, rolls-Braces}
use Rattle.cl_ast.specs.declared.declaration.Init.TheOpen.{Init-F}
use Rattle.cl_ast.specs.declared.declaration.Init.TheOpen as layer
use Rattle.cl_ast.specs.declared.declaration.Init.TheViews.{out-Init, roll-Init, roll-out-Init}
use Rattle.cl_ast.specs.declared.declaration.Init.TheFolds.{fold-roll-Init}
use Rattle.cl_ast.specs.declared.declaration.InitDeclor.{InitDeclor}
use Rattle.cl_ast.specs.declared.expression.Expr.{Expr}
use Rattle.cl_variables.specs.Declarations.{is_braced}
use Rattle.cl_variables.specs.Initialisers.{some}
use Rattle.cl_plain.specs.Plain.{Plain, over, value, braces, init_over, in_option, plain_expr, plain_declor, plain_init, plain_declared}
use Rattle.cl_verdicts.proofs.PlainNodes.{over_one}

value_rolls : (e : Expr) → plain_init (roll-Init (layer.Value e)) ≡ over value (plain_expr e ∷ [])
value_rolls e = fold-roll-Init Plain init_over (layer.Value e)

braces_roll : (place : Place) (v : Vec Init) → plain_init (roll-Init (layer.Braces place v)) ≡ over (braces place) (map plain_init v.items)
braces_roll place v = fold-roll-Init Plain init_over (layer.Braces place v)

value_says : (e : Expr) → plain_init (init.Value e) ≡ over value (plain_expr e ∷ [])
value_says e = ap plain_init (sym (rolls-Value e)) ∙ value_rolls e

braces_say : (place : Place) (v : Vec Init) → plain_init (init.Braces place v) ≡ over (braces place) (map plain_init v.items)
braces_say place v = ap plain_init (sym (rolls-Braces place v)) ∙ braces_roll place v

-- a value, or a list in braces
pub data InitView (i : Init) : Type 0 where
  a_value : (e : Expr) → i ≡ init.Value e → plain_init i ≡ over value (plain_expr e ∷ []) → InitView i
  a_list : (place : Place) (v : Vec Init) → i ≡ init.Braces place v → plain_init i ≡ over (braces place) (map plain_init v.items) → InitView i

pub init_view : (i : Init) → InitView i
init_view i = by (out-Init i) (roll-out-Init i)
  where
    by : (l : Init-F Init) → roll-Init l ≡ i → InitView i
    by (layer.Value e) p = a_value e (sym p ∙ rolls-Value e) (ap plain_init (sym p) ∙ value_rolls e)
    by (layer.Braces place v) p = a_list place v (sym p ∙ rolls-Braces place v) (ap plain_init (sym p) ∙ braces_roll place v)

-- ---- one that says the same as a value, and as a list

pub record IsValueAs (i : Init) (e : Expr) : Type 0 where
  pub expr : Expr
  pub is : i ≡ init.Value expr
  pub same : plain_expr expr ≡ plain_expr e

pub record IsListAs (i : Init) (place : Place) (v : Vec Init) : Type 0 where
  pub list : Vec Init
  pub is : i ≡ init.Braces place list
  pub same : map plain_init list.items ≡ map plain_init v.items

pub value_as : (e : Expr) (i : Init) → plain_init i ≡ plain_init (init.Value e) → IsValueAs i e
value_as e i p = by (init_view i)
  where
    by : InitView i → IsValueAs i e
    by (a_value x f g) =
        let h = value_says e in
        let k : plain_expr x ≡ plain_expr e = cc in
        record { expr = x; is = f; same = k }
    by (a_list place v f g) =
        let h = value_says e in
        let k : over (braces place) (map plain_init v.items) ≡ over value (plain_expr e ∷ []) = cc in
        absurd cc

pub list_as : (place : Place) (v : Vec Init) (i : Init) → plain_init i ≡ plain_init (init.Braces place v) → IsListAs i place v
list_as place v i p = by (init_view i)
  where
    by : InitView i → IsListAs i place v
    by (a_value x f g) =
        let h = braces_say place v in
        let k : over value (plain_expr x ∷ []) ≡ over (braces place) (map plain_init v.items) = cc in
        absurd cc
    by (a_list place2 u f g) =
        let h = over_one (braces place2) (braces place) (map plain_init u.items) (map plain_init v.items) (sym g ∙ p ∙ braces_say place v) in
        let a = h.0 in
        let k : place2 ≡ place = cc in
        record { list = u; is = cc; same = h.1 }

-- ---- items

pub record IsValueFirst (items : List Init) (e : Expr) (rest : List Init) : Type 0 where
  pub expr : Expr
  pub others : List Init
  pub is : items ≡ init.Value expr ∷ others
  pub said : plain_expr expr ≡ plain_expr e
  pub same : map plain_init others ≡ map plain_init rest

pub record IsListFirst (items : List Init) (place : Place) (v : Vec Init) (rest : List Init) : Type 0 where
  pub list : Vec Init
  pub others : List Init
  pub is : items ≡ init.Braces place list ∷ others
  pub said : map plain_init list.items ≡ map plain_init v.items
  pub same : map plain_init others ≡ map plain_init rest

pub value_first : (e : Expr) (rest items : List Init) → map plain_init items ≡ map plain_init (init.Value e ∷ rest) → IsValueFirst items e rest
value_first e rest [] p = absurd cc
value_first e rest (i ∷ items) p =
    let f : plain_init i ≡ plain_init (init.Value e) = cc in
    let g : map plain_init items ≡ map plain_init rest = cc in
    let h = value_as e i f in
    record { expr = h.expr; others = items; is = ap (λ z. z ∷ items) h.is; said = h.same; same = g }

pub list_first : (place : Place) (v : Vec Init) (rest items : List Init) → map plain_init items ≡ map plain_init (init.Braces place v ∷ rest) → IsListFirst items place v rest
list_first place v rest [] p = absurd cc
list_first place v rest (i ∷ items) p =
    let f : plain_init i ≡ plain_init (init.Braces place v) = cc in
    let g : map plain_init items ≡ map plain_init rest = cc in
    let h = list_as place v i f in
    record { list = h.list; others = items; is = ap (λ z. z ∷ items) h.is; said = h.same; same = g }

pub no_items : (items : List Init) → map plain_init items ≡ [] → items ≡ []
no_items [] p = refl
no_items (i ∷ items) p = absurd cc

pub some_same : (items others : List Init) → map plain_init items ≡ map plain_init others → some items ≡ some others
some_same [] [] p = refl
some_same [] (i ∷ others) p = absurd cc
some_same (i ∷ items) [] p = absurd cc
some_same (i ∷ items) (j ∷ others) p = refl

-- ---- initialisers that may be missing

pub some_init_same : (i j : Option Init) → in_option plain_init i ≡ in_option plain_init j → is_some i ≡ is_some j
some_init_same None None p = refl
some_init_same None (Some j) p = absurd cc
some_init_same (Some i) None p = absurd cc
some_init_same (Some i) (Some j) p = refl

pub braced_same : (i j : Option Init) → in_option plain_init i ≡ in_option plain_init j → is_braced i ≡ is_braced j
braced_same None None p = refl
braced_same None (Some j) p = absurd cc
braced_same (Some i) None p = absurd cc
braced_same (Some i) (Some j) p =
    let q : plain_init i ≡ plain_init j = cc in
    by q (init_view j)
  where
    by : plain_init i ≡ plain_init j → InitView j → is_braced (Some i) ≡ is_braced (Some j)
    by q (a_value e f g) =
        let h = value_as e i (q ∙ ap plain_init f) in
        ap (λ z. is_braced (Some z)) h.is ∙ ap (λ z. is_braced (Some z)) (sym f)
    by q (a_list place v f g) =
        let h = list_as place v i (q ∙ ap plain_init f) in
        ap (λ z. is_braced (Some z)) h.is ∙ ap (λ z. is_braced (Some z)) (sym f)

-- ---- declared names with their initialisers

pub record IsDeclaredAs (d e : InitDeclor) : Type 0 where
  pub name : plain_declor d.name ≡ plain_declor e.name
  pub init : in_option plain_init d.init ≡ in_option plain_init e.init

pub declared_as : (d e : InitDeclor) → plain_declared d ≡ plain_declared e → IsDeclaredAs d e
declared_as d e p =
    let f : plain_declor d.name ≡ plain_declor e.name = cc in
    let g : in_option plain_init d.init ≡ in_option plain_init e.init = cc in
    record { name = f; init = g }
