-- What a node comes to behind its typed operands: an offence or none; the same in two tables where the operands are one but for the numbers of types.
use Rattle.std.proofs.Common.{◌≡◌, ℕ, List, [], ◌∷◌, map, refl, sym, ap, ◌∙◌, subst, Bool, true, false, not, ◌&&◌, ◌||◌, if◌then◌else◌, ◌⊎◌, inl, inr, Option, Some, None}
use Rattle.std.specs.Option.{option_map}
use Rattle.clv_place.specs.declared.place.Place.{Place}
use Rattle.clv_place.specs.declared.stop.Offence.{Offence}
use Rattle.cl_types.specs.declared.types.ClType.{ClType}
use Rattle.cl_types.specs.declared.types.TypeId.{TypeId}
use Rattle.cl_types.specs.declared.operator.UnOp.TheVariants as un
use Rattle.cl_types.specs.Table.{AreBuilt}
use Rattle.cl_builtins.specs.declared.call.Found.{Found}
use Rattle.cl_builtins.specs.Found.{Means, HasNoForm}
use Rattle.cl_builtins.specs.Names.{Entry, lookup, entries}
use Rattle.cl_ast.specs.declared.expression.ExprNode.{ExprNode}
use Rattle.cl_ast.specs.declared.expression.ExprNode.TheVariants as node
use Rattle.cl_tree.specs.declared.expression.TExpr.{TExpr}
use Rattle.cl_tree.specs.Constants.{divides, constancy_of, number_of}
use Rattle.cl_tree.specs.Shapes.{is_vector, members_of}
use Rattle.cl_rules.specs.declared.rule.Judged.{Judged}
use Rattle.cl_rules.specs.declared.rule.Judged.TheVariants.{Broken, Makes}
use Rattle.cl_rules.specs.declared.rule.Made.{Made}
use Rattle.cl_rules.specs.declared.rule.Operand.{Operand}
use Rattle.cl_rules.specs.Calls.{no_size}
use Rattle.cl_rules.specs.Operands.{type_of}
use Rattle.cl_rules.specs.Operators.{dereferenced}
use Rattle.cl_rules.specs.Parts.{member as member_rule_of}
use Rattle.cl_scope.specs.declared.scope.Declared.{Declared}
use Rattle.cl_scope.specs.Names.{Env, find}
use Rattle.cl_make.proofs.Growing.{none_some, some_same}
use Rattle.cl_make.specs.Building.{IsMade}
use Rattle.cl_type_expr.specs.Expressions.{is_value, component_in, component_of, AreArguments, is_fence, is_fence_rule, is_flag, are_flags, flags_fit, or_later, first_divides, flag_divides}
use Rattle.cl_type_expr.specs.Judging.{judge}
use Rattle.cl_type_expr.specs.Offences.{at}
use Rattle.cl_renaming.specs.Renaming.{type_id, operand_as, made_as, judged_as, declared_as, IsRenaming, AreTypes}
use Rattle.cl_renaming.specs.Trees.{IsTreeAs, AreTreesAs, none, more}
use Rattle.cl_renaming.proofs.Shapes.{type_of_as}
use Rattle.cl_renaming.proofs.Operators.{dereferenced_as}
use Rattle.cl_renaming.proofs.Calls.{no_size_as}
use Rattle.cl_renaming.proofs.Scopes.{find_as}
use Rattle.cl_renaming.proofs.Nodes.{made_one}
use Rattle.cl_renaming.proofs.Values.{constancy_as, number_of_as}
use Rattle.cl_renaming.proofs.Means.{no_form_one, form_one}
use Rattle.cl_renaming.proofs.Single.{asks_made, dereferenced_asks}
use Rattle.cl_renaming.proofs.Judging.{judge_as, member_of_as}
use Rattle.cl_renaming.proofs.Agreement.{AllSame, arguments_same, vector_unjudged}

-- ---- offences by what is known of a node

abbrev pub judged_verdict : Place → Judged → Option Offence
judged_verdict place (Broken code) = Some (at code place)
judged_verdict place (Makes m) = None

abbrev pub value_verdict : Place → Bool → Option Offence
value_verdict place true = None
value_verdict place false = Some (at 301 place)

abbrev pub size_verdict : Place → Bool → Option Offence
size_verdict place true = Some (at 303 place)
size_verdict place false = None

abbrev pub index_verdict : Place → Option Place → Option ℕ → Option Offence
index_verdict place (Some p) k = Some (at 334 p)
index_verdict place None None = Some (at 307 place)
index_verdict place None (Some k) = None

-- of a call: that no form fits, or whether its flags are right
abbrev pub fit_verdict : Place → Option Bool → Option Offence
fit_verdict place None = Some (at 329 place)
fit_verdict place (Some true) = None
fit_verdict place (Some false) = Some (at 330 place)

abbrev pub call_verdict : Place → Option Place → Option Entry → Option Bool → Option Offence
call_verdict place (Some p) found fit = Some (at 334 p)
call_verdict place None None fit = Some (at 301 place)
call_verdict place None (Some e) fit = fit_verdict place fit

-- ---- what a node comes to

pub record JudgedTo (cs : List ClType) (after : Env) (left : Bool) (place : Place) (n : ExprNode) (os : List Operand) (v : Option Offence) : Type 0 where
  pub rule : Judged
  pub judged : judge cs after left n os ≡ Some rule
  pub is : v ≡ judged_verdict place rule

pub record SizeTo (place : Place) (os : List Operand) (v : Option Offence) : Type 0 where
  pub operand : Operand
  pub has : os ≡ operand ∷ []
  pub is : v ≡ size_verdict place (no_size operand)

pub record IndexTo (cs : List ClType) (place : Place) (ts : List TExpr) (os : List Operand) (v : Option Offence) : Type 0 where
  pub tree : TExpr
  pub index : TExpr
  pub operand : Operand
  pub other : Operand
  pub trees : ts ≡ tree ∷ index ∷ []
  pub has : os ≡ operand ∷ other ∷ []
  pub vector : is_vector operand.shape ≡ true
  pub is : v ≡ index_verdict place (divides (constancy_of cs index)) (component_of cs operand index)

pub record LeadsTo (cs : List ClType) (left : Bool) (place : Place) (text : List ℕ) (tree : TExpr) (operand : Operand) (v : Option Offence) : Type 0 where
  pub pointed : Made
  pub whole : TExpr
  pub of : Operand
  pub points : dereferenced operand operand.shape ≡ Makes pointed
  pub leads : IsMade cs pointed place (tree ∷ []) whole of
  pub is : v ≡ judged_verdict place (member_rule_of left (members_of cs of.facts.ty) text of)

pub record NoPointer (place : Place) (operand : Operand) (v : Option Offence) : Type 0 where
  pub code : ℕ
  pub points : dereferenced operand operand.shape ≡ Broken code
  pub is : v ≡ Some (at code place)

pub record ArrowTo (cs : List ClType) (left : Bool) (place : Place) (text : List ℕ) (ts : List TExpr) (os : List Operand) (v : Option Offence) : Type 0 where
  pub tree : TExpr
  pub operand : Operand
  pub trees : ts ≡ tree ∷ []
  pub has : os ≡ operand ∷ []
  pub to : NoPointer place operand v ⊎ LeadsTo cs left place text tree operand v

abbrev pub FitIs : List ClType → List ℕ → List TExpr → List TypeId → Option Bool → Type 0
FitIs cs text ts tys None = HasNoForm text cs tys
FitIs cs text ts tys (Some fits) = (found : Found) × Means text cs tys cs found × (fits ≡ flags_fit cs text ts)

pub record Fitting (cs : List ClType) (text : List ℕ) (ts : List TExpr) (os : List Operand) (fit : Option Bool) : Type 0 where
  pub types : List TypeId
  pub arguments : AreArguments cs os types
  pub fits : FitIs cs text ts types fit

pub record CallTo (cs : List ClType) (after : Env) (left : Bool) (place : Place) (text : List ℕ) (ts : List TExpr) (os : List Operand) (v : Option Offence) : Type 0 where
  pub fit : Option Bool
  pub unjudged : judge cs after left (node.Call text) os ≡ None
  pub is : v ≡ call_verdict place (flag_divides cs text ts) (lookup entries text) fit
  pub fitting : (entry : Entry) → flag_divides cs text ts ≡ None → lookup entries text ≡ Some entry → Fitting cs text ts os fit

abbrev pub OwnTo : List ClType → Env → Bool → Place → List TExpr → List Operand → Option Offence → ExprNode → Type 0
OwnTo cs after left place ts os v (node.Name text) = v ≡ value_verdict place (is_value (find after text))
OwnTo cs after left place ts os v (node.Number n k) = v ≡ None
OwnTo cs after left place ts os v (node.Unary op) = (op ≡ un.Sizeof) × SizeTo place os v
OwnTo cs after left place ts os v node.Index = IndexTo cs place ts os v
OwnTo cs after left place ts os v (node.Member text pointed) = (pointed ≡ true) × ArrowTo cs left place text ts os v
OwnTo cs after left place ts os v (node.Call text) = CallTo cs after left place text ts os v
OwnTo cs after left place ts os v _ = ⊥

abbrev pub Comes : List ClType → Env → Bool → Place → ExprNode → List TExpr → List Operand → Option Offence → Type 0
Comes cs after left place n ts os v = JudgedTo cs after left place n os v ⊎ OwnTo cs after left place ts os v n

-- a node with a rule of its own has no other
own_unjudged : (cs : List ClType) (after : Env) (left : Bool) (place : Place) (n : ExprNode) (ts : List TExpr) (os : List Operand) (v : Option Offence) → OwnTo cs after left place ts os v n → judge cs after left n os ≡ None
own_unjudged cs after left place (node.Name text) ts os v x = refl
own_unjudged cs after left place (node.Number n k) ts os v x = refl
own_unjudged cs after left place (node.Unary op) ts os v x = (λ i. judge cs after left (node.Unary (x.0 i)) (x.1.has i))
own_unjudged cs after left place node.Index ts os v x = ap (judge cs after left node.Index) x.has ∙ vector_unjudged x.operand x.other x.vector
own_unjudged cs after left place (node.Member text pointed) ts os v x = (λ i. judge cs after left (node.Member text (x.0 i)) (x.1.has i))
own_unjudged cs after left place (node.Call text) ts os v x = x.unjudged
own_unjudged cs after left place _ ts os v x = absurd x

-- ---- in two tables

trees_one : (r : ℕ → ℕ) (ts us : List TExpr) (t u : TExpr) → ts ≡ t ∷ [] → us ≡ u ∷ [] → AreTreesAs r ts us → IsTreeAs r t u
trees_one r ts us t u f g none = absurd (let k : [] ≡ t ∷ [] = f in cc)
trees_one r ts us t u f g (more x y xs ys a s) = subst (IsTreeAs r t) (let k : y ∷ ys ≡ u ∷ [] = g in cc) (subst (λ z. IsTreeAs r z y) (let k : x ∷ xs ≡ t ∷ [] = f in cc) a)

trees_second : (r : ℕ → ℕ) (ts us : List TExpr) (s t p u : TExpr) → ts ≡ s ∷ t ∷ [] → us ≡ p ∷ u ∷ [] → AreTreesAs r ts us → IsTreeAs r t u
trees_second r ts us s t p u f g none = absurd (let k : [] ≡ s ∷ t ∷ [] = f in cc)
trees_second r ts us s t p u f g (more x y xs ys a z) = trees_one r xs ys t u (let k : x ∷ xs ≡ s ∷ t ∷ [] = f in cc) (let k : y ∷ ys ≡ p ∷ u ∷ [] = g in cc) z

value_same : (r : ℕ → ℕ) (d : Option Declared) → is_value (option_map (declared_as r) d) ≡ is_value d
value_same r None = refl
value_same r (Some d) = refl

judged_verdict_as : (r : ℕ → ℕ) (place : Place) (j : Judged) → judged_verdict place (judged_as r j) ≡ judged_verdict place j
judged_verdict_as r place (Broken code) = refl
judged_verdict_as r place (Makes m) = refl

pub no_fence : (text : List ℕ) → lookup entries text ≡ None → is_fence text ≡ false
no_fence text e = ap is_fence_rule e

module _ (cs ds : List ClType) (r : ℕ → ℕ) (e : IsRenaming cs ds r) (bc : AreBuilt [] cs) (b : AreTypes ds) where
  first_divides_as : (ts us : List TExpr) → AreTreesAs r ts us → first_divides ds us ≡ first_divides cs ts
  first_divides_as _ _ none = refl
  first_divides_as _ _ (more t u ts us a s) = λ i. or_later (divides (constancy_as cs ds r e t u a i)) (first_divides_as ts us s i)

  are_flags_as : (ts us : List TExpr) → AreTreesAs r ts us → are_flags ds us ≡ are_flags cs ts
  are_flags_as _ _ none = refl
  are_flags_as _ _ (more t u ts us a s) = λ i. is_flag (number_of_as cs ds r e t u a i) && are_flags_as ts us s i

  flag_divides_as : (text : List ℕ) (ts us : List TExpr) → AreTreesAs r ts us → flag_divides ds text us ≡ flag_divides cs text ts
  flag_divides_as text ts us s = ap (λ z. if is_fence text then z else None) (first_divides_as ts us s)

  flags_fit_as : (text : List ℕ) (ts us : List TExpr) → AreTreesAs r ts us → flags_fit ds text us ≡ flags_fit cs text ts
  flags_fit_as text ts us s = ap (λ z. not (is_fence text) || z) (are_flags_as ts us s)

  component_as : (o p : Operand) (i k : TExpr) → p ≡ operand_as r o → IsTreeAs r i k → component_of ds p k ≡ component_of cs o i
  component_as o p i k f s = (λ j. component_in (type_of (f j).shape).count (number_of_as cs ds r e i k s j)) ∙ (λ j. component_in (type_of_as r o.shape j).count (number_of cs i))

  fit_same : (text : List ℕ) (ts us : List TExpr) (tys uys : List TypeId) (fit fit2 : Option Bool) → AreTreesAs r ts us → uys ≡ map (type_id r) tys → FitIs cs text ts tys fit → FitIs ds text us uys fit2 → fit2 ≡ fit
  fit_same text ts us tys uys None None s f x y = refl
  fit_same text ts us tys uys None (Some k) s f x y = absurd (no_form_one cs ds r e b text tys uys y.0 f x y.1)
  fit_same text ts us tys uys (Some k) None s f x y = absurd (form_one cs ds r e b text tys uys x.0 f x.1 y)
  fit_same text ts us tys uys (Some k) (Some l) s f x y = ap Some (y.2 ∙ flags_fit_as text ts us s ∙ sym x.2)

  module _ (after after2 : Env) (left : Bool) (place : Place) (ts ts2 : List TExpr) (os os2 : List Operand) (a : AllSame r after after2 ts ts2 os os2) (v w : Option Offence) where
    judge_there : (n : ExprNode) → judge ds after2 left n os2 ≡ option_map (judged_as r) (judge cs after left n os)
    judge_there n = (λ i. judge ds (a.0 i) left n (a.1 i)) ∙ judge_as cs ds r e after left n os

    judged_same : (n : ExprNode) → JudgedTo cs after left place n os v → JudgedTo ds after2 left place n os2 w → w ≡ v
    judged_same n x y =
        let f : y.rule ≡ judged_as r x.rule = some_same y.rule (judged_as r x.rule) (sym y.judged ∙ judge_there n ∙ ap (option_map (judged_as r)) x.judged) in
        y.is ∙ ap (judged_verdict place) f ∙ judged_verdict_as r place x.rule ∙ sym x.is

    -- the operands by themselves
    one_operand : (o p : Operand) → os ≡ o ∷ [] → os2 ≡ p ∷ [] → p ≡ operand_as r o
    one_operand o p f g = let h : p ∷ [] ≡ operand_as r o ∷ [] = sym g ∙ a.1 ∙ ap (map (operand_as r)) f in cc

    two_operands : (o q p s : Operand) → os ≡ o ∷ q ∷ [] → os2 ≡ p ∷ s ∷ [] → p ≡ operand_as r o
    two_operands o q p s f g = let h : p ∷ s ∷ [] ≡ operand_as r o ∷ operand_as r q ∷ [] = sym g ∙ a.1 ∙ ap (map (operand_as r)) f in cc

    size_same : SizeTo place os v → SizeTo place os2 w → w ≡ v
    size_same x y = y.is ∙ ap (λ o. size_verdict place (no_size o)) (one_operand x.operand y.operand x.has y.has) ∙ ap (size_verdict place) (no_size_as r x.operand) ∙ sym x.is

    index_same : IndexTo cs place ts os v → IndexTo ds place ts2 os2 w → w ≡ v
    index_same x y =
        let s = trees_second r ts ts2 x.tree x.index y.tree y.index x.trees y.trees a.2 in
        let f = two_operands x.operand x.other y.operand y.other x.has y.has in
        y.is ∙ (λ i. index_verdict place (divides (constancy_as cs ds r e x.index y.index s i)) (component_as x.operand y.operand x.index y.index f s i)) ∙ sym x.is

    arrow_same : (text : List ℕ) → ArrowTo cs left place text ts os v → ArrowTo ds left place text ts2 os2 w → w ≡ v
    arrow_same text x y = by x.to y.to
      where
        s : IsTreeAs r x.tree y.tree
        s = trees_one r ts ts2 x.tree y.tree x.trees y.trees a.2

        f : y.operand ≡ operand_as r x.operand
        f = one_operand x.operand y.operand x.has y.has

        there : dereferenced y.operand y.operand.shape ≡ judged_as r (dereferenced x.operand x.operand.shape)
        there = ap (λ z. dereferenced z z.shape) f ∙ dereferenced_as r x.operand x.operand.shape

        by : NoPointer place x.operand v ⊎ LeadsTo cs left place text x.tree x.operand v → NoPointer place y.operand w ⊎ LeadsTo ds left place text y.tree y.operand w → w ≡ v
        by (inl p) (inl q) =
            let k : Broken q.code ≡ Broken p.code = sym q.points ∙ there ∙ ap (judged_as r) p.points in
            let l : q.code ≡ p.code = cc in
            q.is ∙ ap (λ c. Some (at c place)) l ∙ sym p.is
        by (inl p) (inr q) = absurd (let k : Makes q.pointed ≡ Broken p.code = sym q.points ∙ there ∙ ap (judged_as r) p.points in cc)
        by (inr p) (inl q) = absurd (let k : Broken q.code ≡ Makes (made_as r p.pointed) = sym q.points ∙ there ∙ ap (judged_as r) p.points in cc)
        by (inr p) (inr q) =
            let k : Makes q.pointed ≡ Makes (made_as r p.pointed) = sym q.points ∙ there ∙ ap (judged_as r) p.points in
            let l : q.pointed ≡ made_as r p.pointed = cc in
            let u =
            made_one cs ds r e b p.pointed place (x.tree ∷ []) (y.tree ∷ []) p.whole q.whole p.of q.of (asks_made (dereferenced x.operand x.operand.shape) p.pointed p.points (dereferenced_asks x.operand x.operand.shape))
            (more x.tree y.tree [] [] s none) p.leads (subst (λ z. IsMade ds z place (y.tree ∷ []) q.whole q.of) l q.leads) in
            q.is ∙ ap (λ z. judged_verdict place (member_rule_of left (members_of ds z.facts.ty) text z)) u.0 ∙ ap (judged_verdict place) (member_of_as cs ds r e left text p.of)
            ∙ judged_verdict_as r place (member_rule_of left (members_of cs p.of.facts.ty) text p.of) ∙ sym p.is

    call_same : (text : List ℕ) → CallTo cs after left place text ts os v → CallTo ds after2 left place text ts2 os2 w → w ≡ v
    call_same text x y =
        y.is ∙ ap (λ z. call_verdict place z (lookup entries text) y.fit) (flag_divides_as text ts ts2 a.2) ∙ by (flag_divides cs text ts) (lookup entries text) refl refl ∙ sym x.is
      where
        by : (p : Option Place) (k : Option Entry) → flag_divides cs text ts ≡ p → lookup entries text ≡ k → call_verdict place p k y.fit ≡ call_verdict place p k x.fit
        by (Some p) k f g = refl
        by None None f g = refl
        by None (Some entry) f g =
            let u = x.fitting entry f g in
            let t = y.fitting entry (flag_divides_as text ts ts2 a.2 ∙ f) g in
            ap (fit_verdict place) (fit_same text ts ts2 u.types t.types x.fit y.fit a.2 (arguments_same cs ds r e bc b os os2 u.types t.types a.1 u.arguments t.arguments) u.fits t.fits)

    own_same : (n : ExprNode) → OwnTo cs after left place ts os v n → OwnTo ds after2 left place ts2 os2 w n → w ≡ v
    own_same (node.Name text) x y = y ∙ ap (λ z. value_verdict place (is_value (find z text))) a.0 ∙ ap (λ z. value_verdict place (is_value z)) (find_as r after text) ∙ ap (value_verdict place) (value_same r (find after text)) ∙ sym x
    own_same (node.Number n k) x y = y ∙ sym x
    own_same (node.Unary op) x y = size_same x.1 y.1
    own_same node.Index x y = index_same x y
    own_same (node.Member text pointed) x y = arrow_same text x.1 y.1
    own_same (node.Call text) x y = call_same text x y
    own_same _ x y = absurd x

    pub comes_same : (n : ExprNode) → Comes cs after left place n ts os v → Comes ds after2 left place n ts2 os2 w → w ≡ v
    comes_same n (inl x) (inl y) = judged_same n x y
    comes_same n (inl x) (inr y) = absurd (none_some (sym (own_unjudged ds after2 left place n ts2 os2 w y) ∙ judge_there n ∙ ap (option_map (judged_as r)) x.judged))
    comes_same n (inr x) (inl y) = absurd (none_some (sym (ap (option_map (judged_as r)) (own_unjudged cs after left place n ts os v x)) ∙ sym (judge_there n) ∙ y.judged))
    comes_same n (inr x) (inr y) = own_same n x y
