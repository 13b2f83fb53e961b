-- Two lists of initialisers that say the same fill the same, and offend alike.
use Rattle.std.proofs.Common.{◌≡◌, ℕ, List, [], ◌∷◌, map, refl, sym, ap, ◌∙◌, subst, Bool, true, false, true≢false}
use Rattle.clv_place.specs.declared.place.Place.{Place}
use Rattle.clv_place.specs.declared.stop.Offence.{Offence}
use Rattle.cl_types.specs.declared.types.ClType.{ClType}
use Rattle.cl_types.specs.declared.types.Member.{Member}
use Rattle.cl_types.specs.declared.types.TypeId.{TypeId}
use Rattle.cl_ast.specs.declared.declaration.Init.{Init}
use Rattle.cl_ast.specs.declared.declaration.Init.TheVariants as init
use Rattle.cl_ast.specs.declared.expression.Expr.{Expr}
use Rattle.cl_tree.specs.declared.expression.TExpr.{TExpr}
use Rattle.cl_tree.specs.Shapes.{shape_of}
use Rattle.cl_rules.specs.declared.rule.Operand.{Operand}
use Rattle.cl_rules.specs.Operands.{first_broken}
use Rattle.cl_scope.specs.Names.{Env}
use Rattle.cl_type_expr.specs.Offences.{at}
use Rattle.cl_variables.specs.declared.tally.Tally.{Tally}
use Rattle.cl_variables.specs.Initialisers.{has_parts, list_tests, only, IsValue, ValueOffends, in_expression, value_divides, FillsPart, by_list, by_value, by_wrong_value, by_parts, FillsParts, its_elements, its_members, FillsElements, elements_full, elements_ended, more_elements, FillsMembers, members_full, members_ended, more_members, FillsBraces, its_parts, itself, IsList, filled, FillsAll, all_ended, more_all, AreSurplus, no_surplus, surplus_value, surplus_braces, SurplusOffends, in_surplus_value, in_surplus_braces, behind_surplus_value, behind_surplus_braces, PartOffends, in_list, in_part_value, in_parts, PartsOffend, in_elements, in_members, ElementsOffend, in_element, behind_element, MembersOffend, in_member, behind_member, ListOffends, in_filling, in_one, in_surplus, in_braces_for_one, broken, round_none, two_braces, AllOffend, all_here, all_later, IsOpenList, OpenListOffends, in_all, open_broken, open_round_none}
use Rattle.cl_plain.specs.Plain.{plain_expr, plain_init}
use Rattle.cl_verdicts.proofs.PlainExpressions.{types_plain, offends_plain}
use Rattle.cl_verdicts.proofs.PlainInits.{value_first, list_first, no_items, some_same}

-- the same is said of items that are left
abbrev pub Leaving : (List Init → Type 0) → List Init → Type 0
Leaving P left = (others : List Init) × (map plain_init others ≡ map plain_init left) × P others

module _ (cs : List ClType) (constant : Bool) where
  -- ---- values

  pub value_plain : (env : Env) (e : Expr) (after : Env) (t : TExpr) (o : Operand) (varies : Bool) → IsValue cs constant env e after t o varies → (e2 : Expr) → plain_expr e2 ≡ plain_expr e → IsValue cs constant env e2 after t o varies
  value_plain env e after t o varies h e2 says = record { types = types_plain cs env false e after t o h.types e2 says; exact = h.exact; is = h.is }

  pub value_offends_plain : (env : Env) (e : Expr) (o : Offence) → ValueOffends cs constant env e o → (e2 : Expr) → plain_expr e2 ≡ plain_expr e → ValueOffends cs constant env e2 o
  value_offends_plain _ _ _ (in_expression env e o h) e2 says = in_expression env e2 o (offends_plain cs _ _ _ _ h e2 says)
  value_offends_plain _ _ _ (value_divides env after e t o p h h1 h2) e2 says = value_divides env after e2 t o p h (types_plain cs _ _ _ _ _ _ h1 e2 says) h2

  -- ---- items for which nothing is left

  pub surplus_plain : (env : Env) (items : List Init) (after : Env) → AreSurplus cs constant env items after → (items2 : List Init) → map plain_init items2 ≡ map plain_init items → AreSurplus cs constant env items2 after
  surplus_plain _ _ _ (no_surplus env) items2 says = subst (λ z. AreSurplus cs constant env z env) (sym (no_items items2 says)) (no_surplus env)
  surplus_plain _ _ _ (surplus_value env middle after e items t o varies h h1) items2 says =
      let k = value_first e items items2 says in
      subst (λ z. AreSurplus cs constant env z after) (sym k.is) (surplus_value env middle after k.expr k.others t o varies (value_plain env e middle t o varies h k.expr k.said) (surplus_plain _ _ _ h1 k.others k.same))
  surplus_plain _ _ _ (surplus_braces env middle after place inside items h h1) items2 says =
      let k = list_first place inside items items2 says in
      subst (λ z. AreSurplus cs constant env z after) (sym k.is) (surplus_braces env middle after place k.list k.others (surplus_plain _ _ _ h k.list.items k.said) (surplus_plain _ _ _ h1 k.others k.same))

  pub surplus_offends_plain : (env : Env) (items : List Init) (o : Offence) → SurplusOffends cs constant env items o → (items2 : List Init) → map plain_init items2 ≡ map plain_init items → SurplusOffends cs constant env items2 o
  surplus_offends_plain _ _ _ (in_surplus_value env e items o h) items2 says =
      let k = value_first e items items2 says in
      subst (λ z. SurplusOffends cs constant env z o) (sym k.is) (in_surplus_value env k.expr k.others o (value_offends_plain env e o h k.expr k.said))
  surplus_offends_plain _ _ _ (in_surplus_braces env place inside items o h) items2 says =
      let k = list_first place inside items items2 says in
      subst (λ z. SurplusOffends cs constant env z o) (sym k.is) (in_surplus_braces env place k.list k.others o (surplus_offends_plain _ _ _ h k.list.items k.said))
  surplus_offends_plain _ _ _ (behind_surplus_value env middle e items t p varies o h h1) items2 says =
      let k = value_first e items items2 says in
      subst (λ z. SurplusOffends cs constant env z o) (sym k.is) (behind_surplus_value env middle k.expr k.others t p varies o (value_plain env e middle t p varies h k.expr k.said) (surplus_offends_plain _ _ _ h1 k.others k.same))
  surplus_offends_plain _ _ _ (behind_surplus_braces env middle place inside items o h h1) items2 says =
      let k = list_first place inside items items2 says in
      subst (λ z. SurplusOffends cs constant env z o) (sym k.is) (behind_surplus_braces env middle place k.list k.others o (surplus_plain _ _ _ h k.list.items k.said) (surplus_offends_plain _ _ _ h1 k.others k.same))

  -- ---- lists

  parts_have : (env : Env) (items : List Init) (ty : TypeId) (after : Env) (left : List Init) (ts : List TExpr) (tally : Tally) → FillsParts cs constant env items ty after left ts tally → has_parts (shape_of cs ty) ≡ true
  parts_have _ _ _ _ _ _ _ (its_elements env after items left ty elem len nested ts tally h h1) = ap has_parts h
  parts_have _ _ _ _ _ _ _ (its_members env after items left ty ts tally h h1) = ap has_parts h

  -- a type without parts is filled by the first item alone
  one_fills : (env : Env) (items : List Init) (ty : TypeId) (after : Env) (left : List Init) (ts : List TExpr) (tally : Tally) → FillsPart cs constant env items ty after left ts tally → has_parts (shape_of cs ty) ≡ false → (i : Init) (rest : List Init) → items ≡ i ∷ rest → left ≡ rest
  one_fills _ _ _ _ _ _ _ (by_list env after place items rest ty t varies h) none_has i others is = cc
  one_fills _ _ _ _ _ _ _ (by_value env after e rest ty t u o varies tally h h1 h2 h3 h4) none_has i others is = cc
  one_fills _ _ _ _ _ _ _ (by_wrong_value env after e rest ty t o varies tally h h1 h2 h3) none_has i others is = cc
  one_fills _ _ _ _ _ _ _ (by_parts env seen after e rest left ty t ts o varies tally h h1 h2) none_has i others is = absurd (true≢false (sym (parts_have _ _ _ _ _ _ _ h2) ∙ none_has))

  mutual
    pub part_plain : (env : Env) (items : List Init) (ty : TypeId) (after : Env) (left : List Init) (ts : List TExpr) (tally : Tally) → FillsPart cs constant env items ty after left ts tally → (items2 : List Init) → map plain_init items2 ≡ map plain_init items → Leaving (λ z. FillsPart cs constant env items2 ty after z ts tally) left
    part_plain _ _ _ _ _ _ _ (by_list env after place items rest ty t varies h) items2 says =
        let k = list_first place items rest items2 says in
        (k.others, k.same, subst (λ z. FillsPart cs constant env z ty after k.others (t ∷ []) (only varies)) (sym k.is) (by_list env after place k.list k.others ty t varies (list_plain _ _ _ _ _ _ _ h k.list.items k.said)))
    part_plain _ _ _ _ _ _ _ (by_value env after e rest ty t u o varies tally h h1 h2 h3 h4) items2 says =
        let k = value_first e rest items2 says in
        (k.others, k.same, subst (λ z. FillsPart cs constant env z ty after k.others (u ∷ []) tally) (sym k.is) (by_value env after k.expr k.others ty t u o varies tally (value_plain env e after t o varies h k.expr k.said) h1 h2 h3 h4))
    part_plain _ _ _ _ _ _ _ (by_wrong_value env after e rest ty t o varies tally h h1 h2 h3) items2 says =
        let k = value_first e rest items2 says in
        (k.others, k.same, subst (λ z. FillsPart cs constant env z ty after k.others [] tally) (sym k.is) (by_wrong_value env after k.expr k.others ty t o varies tally (value_plain env e after t o varies h k.expr k.said) h1 h2 h3))
    part_plain _ _ _ _ _ _ _ (by_parts env seen after e rest left ty t ts o varies tally h h1 h2) items2 says =
        let k = value_first e rest items2 says in
        let r = parts_plain _ _ _ _ _ _ _ h2 (init.Value k.expr ∷ k.others) (ap (map plain_init) (sym k.is) ∙ says) in
        (r.0, r.1, subst (λ z. FillsPart cs constant env z ty after r.0 ts tally) (sym k.is) (by_parts env seen after k.expr k.others r.0 ty t ts o varies tally (value_plain env e seen t o varies h k.expr k.said) h1 r.2))

    pub parts_plain : (env : Env) (items : List Init) (ty : TypeId) (after : Env) (left : List Init) (ts : List TExpr) (tally : Tally) → FillsParts cs constant env items ty after left ts tally → (items2 : List Init) → map plain_init items2 ≡ map plain_init items → Leaving (λ z. FillsParts cs constant env items2 ty after z ts tally) left
    parts_plain _ _ _ _ _ _ _ (its_elements env after items left ty elem len nested ts tally h h1) items2 says =
        let r = elements_plain _ _ _ _ _ _ _ _ h1 items2 says in
        (r.0, r.1, its_elements env after items2 r.0 ty elem len nested ts tally h r.2)
    parts_plain _ _ _ _ _ _ _ (its_members env after items left ty ts tally h h1) items2 says =
        let r = members_fill_plain _ _ _ _ _ _ _ h1 items2 says in
        (r.0, r.1, its_members env after items2 r.0 ty ts tally h r.2)

    pub elements_plain : (env : Env) (items : List Init) (elem : TypeId) (n : ℕ) (after : Env) (left : List Init) (ts : List TExpr) (tally : Tally) → FillsElements cs constant env items elem n after left ts tally → (items2 : List Init) → map plain_init items2 ≡ map plain_init items → Leaving (λ z. FillsElements cs constant env items2 elem n after z ts tally) left
    elements_plain _ _ _ _ _ _ _ _ (elements_full env items elem) items2 says = (items2, says, elements_full env items2 elem)
    elements_plain _ _ _ _ _ _ _ _ (elements_ended env elem n) [] says = ([], refl, elements_ended env elem n)
    elements_plain _ _ _ _ _ _ _ _ (elements_ended env elem n) (j ∷ items2) says = absurd cc
    elements_plain _ _ _ _ _ _ _ _ (more_elements env middle after i items between left elem n ts us a b h h1) [] says = absurd cc
    elements_plain _ _ _ _ _ _ _ _ (more_elements env middle after i items between left elem n ts us a b h h1) (j ∷ items2) says =
        let r = part_plain _ _ _ _ _ _ _ h (j ∷ items2) says in
        let s = elements_plain _ _ _ _ _ _ _ _ h1 r.0 r.1 in
        (s.0, s.1, more_elements env middle after j items2 r.0 s.0 elem n ts us a b r.2 s.2)

    pub members_fill_plain : (env : Env) (items : List Init) (ms : List Member) (after : Env) (left : List Init) (ts : List TExpr) (tally : Tally) → FillsMembers cs constant env items ms after left ts tally → (items2 : List Init) → map plain_init items2 ≡ map plain_init items → Leaving (λ z. FillsMembers cs constant env items2 ms after z ts tally) left
    members_fill_plain _ _ _ _ _ _ _ (members_full env items) items2 says = (items2, says, members_full env items2)
    members_fill_plain _ _ _ _ _ _ _ (members_ended env m ms) [] says = ([], refl, members_ended env m ms)
    members_fill_plain _ _ _ _ _ _ _ (members_ended env m ms) (j ∷ items2) says = absurd cc
    members_fill_plain _ _ _ _ _ _ _ (more_members env middle after i items between left m ms ts us a b h h1) [] says = absurd cc
    members_fill_plain _ _ _ _ _ _ _ (more_members env middle after i items between left m ms ts us a b h h1) (j ∷ items2) says =
        let r = part_plain _ _ _ _ _ _ _ h (j ∷ items2) says in
        let s = members_fill_plain _ _ _ _ _ _ _ h1 r.0 r.1 in
        (s.0, s.1, more_members env middle after j items2 r.0 s.0 m ms ts us a b r.2 s.2)

    pub braces_plain : (env : Env) (items : List Init) (ty : TypeId) (after : Env) (left : List Init) (ts : List TExpr) (tally : Tally) → FillsBraces cs constant env items ty after left ts tally → (items2 : List Init) → map plain_init items2 ≡ map plain_init items → Leaving (λ z. FillsBraces cs constant env items2 ty after z ts tally) left
    braces_plain _ _ _ _ _ _ _ (its_parts env after items left ty ts tally h h1) items2 says =
        let r = parts_plain _ _ _ _ _ _ _ h1 items2 says in
        (r.0, r.1, its_parts env after items2 r.0 ty ts tally (some_same items2 items says ∙ h) r.2)
    braces_plain _ _ _ _ _ _ _ (itself env after e left ty ts tally h h1) items2 says =
        let k = value_first e left items2 says in
        let r = part_plain _ _ _ _ _ _ _ h1 (init.Value k.expr ∷ k.others) (ap (map plain_init) (sym k.is) ∙ says) in
        let q = one_fills _ _ _ _ _ _ _ r.2 h (init.Value k.expr) k.others refl in
        (k.others, k.same, subst (λ z. FillsBraces cs constant env z ty after k.others ts tally) (sym k.is) (itself env after k.expr k.others ty ts tally h (subst (λ z. FillsPart cs constant env (init.Value k.expr ∷ k.others) ty after z ts tally) q r.2)))

    pub list_plain : (env : Env) (place : Place) (items : List Init) (ty : TypeId) (after : Env) (t : TExpr) (varies : Bool) → IsList cs constant env place items ty after t varies → (items2 : List Init) → map plain_init items2 ≡ map plain_init items → IsList cs constant env place items2 ty after t varies
    list_plain _ _ _ _ _ _ _ (filled env after place items ty ts t tally h h1 h2) items2 says =
        let r = braces_plain _ _ _ _ _ _ _ h items2 says in
        filled env after place items2 ty ts t tally (subst (λ z. FillsBraces cs constant env items2 ty after z ts tally) (no_items r.0 r.1) r.2) h1 h2

  pub all_plain : (env : Env) (items : List Init) (elem : TypeId) (n : ℕ) (after : Env) (ts : List TExpr) (tally : Tally) → FillsAll cs constant env items elem n after ts tally → (items2 : List Init) → map plain_init items2 ≡ map plain_init items → FillsAll cs constant env items2 elem n after ts tally
  all_plain _ _ _ _ _ _ _ (all_ended env elem) [] says = all_ended env elem
  all_plain _ _ _ _ _ _ _ (all_ended env elem) (j ∷ items2) says = absurd cc
  all_plain _ _ _ _ _ _ _ (more_all env middle after i items between elem n ts us a b h h1) [] says = absurd cc
  all_plain _ _ _ _ _ _ _ (more_all env middle after i items between elem n ts us a b h h1) (j ∷ items2) says =
      let r = part_plain _ _ _ _ _ _ _ h (j ∷ items2) says in
      more_all env middle after j items2 r.0 elem n ts us a b r.2 (all_plain _ _ _ _ _ _ _ h1 r.0 r.1)

  pub open_list_plain : (env : Env) (items : List Init) (elem : TypeId) (after : Env) (n : ℕ) (ts : List TExpr) (varies : Bool) → IsOpenList cs constant env items elem after n ts varies → (items2 : List Init) → map plain_init items2 ≡ map plain_init items → IsOpenList cs constant env items2 elem after n ts varies
  open_list_plain env items elem after n ts varies h items2 says =
      record { tally = h.tally; some = some_same items2 items says ∙ h.some; fills = all_plain _ _ _ _ _ _ _ h.fills items2 says; right = h.right; is = h.is }

  -- ---- the first offence of a list

  mutual
    pub part_offends_plain : (env : Env) (items : List Init) (ty : TypeId) (o : Offence) → PartOffends cs constant env items ty o → (items2 : List Init) → map plain_init items2 ≡ map plain_init items → PartOffends cs constant env items2 ty o
    part_offends_plain _ _ _ _ (in_list env place items rest ty o h) items2 says =
        let k = list_first place items rest items2 says in
        subst (λ z. PartOffends cs constant env z ty o) (sym k.is) (in_list env place k.list k.others ty o (list_offends_plain _ _ _ _ _ h k.list.items k.said))
    part_offends_plain _ _ _ _ (in_part_value env e rest ty o h) items2 says =
        let k = value_first e rest items2 says in
        subst (λ z. PartOffends cs constant env z ty o) (sym k.is) (in_part_value env k.expr k.others ty o (value_offends_plain env e o h k.expr k.said))
    part_offends_plain _ _ _ _ (in_parts env seen e rest ty t p varies o h h1 h2) items2 says =
        let k = value_first e rest items2 says in
        subst (λ z. PartOffends cs constant env z ty o) (sym k.is) (in_parts env seen k.expr k.others ty t p varies o (value_plain env e seen t p varies h k.expr k.said) h1 (parts_offend_plain _ _ _ _ h2 (init.Value k.expr ∷ k.others) (ap (map plain_init) (sym k.is) ∙ says)))

    pub parts_offend_plain : (env : Env) (items : List Init) (ty : TypeId) (o : Offence) → PartsOffend cs constant env items ty o → (items2 : List Init) → map plain_init items2 ≡ map plain_init items → PartsOffend cs constant env items2 ty o
    parts_offend_plain _ _ _ _ (in_elements env items ty elem len nested o h h1) items2 says = in_elements env items2 ty elem len nested o h (elements_offend_plain _ _ _ _ _ h1 items2 says)
    parts_offend_plain _ _ _ _ (in_members env items ty o h h1) items2 says = in_members env items2 ty o h (members_offend_plain _ _ _ _ h1 items2 says)

    pub elements_offend_plain : (env : Env) (items : List Init) (elem : TypeId) (n : ℕ) (o : Offence) → ElementsOffend cs constant env items elem n o → (items2 : List Init) → map plain_init items2 ≡ map plain_init items → ElementsOffend cs constant env items2 elem n o
    elements_offend_plain _ _ _ _ _ (in_element env i items elem n o h) [] says = absurd cc
    elements_offend_plain _ _ _ _ _ (in_element env i items elem n o h) (j ∷ items2) says = in_element env j items2 elem n o (part_offends_plain _ _ _ _ h (j ∷ items2) says)
    elements_offend_plain _ _ _ _ _ (behind_element env middle i items between elem n ts a o h h1) [] says = absurd cc
    elements_offend_plain _ _ _ _ _ (behind_element env middle i items between elem n ts a o h h1) (j ∷ items2) says =
        let r = part_plain _ _ _ _ _ _ _ h (j ∷ items2) says in
        behind_element env middle j items2 r.0 elem n ts a o r.2 (elements_offend_plain _ _ _ _ _ h1 r.0 r.1)

    pub members_offend_plain : (env : Env) (items : List Init) (ms : List Member) (o : Offence) → MembersOffend cs constant env items ms o → (items2 : List Init) → map plain_init items2 ≡ map plain_init items → MembersOffend cs constant env items2 ms o
    members_offend_plain _ _ _ _ (in_member env i items m ms o h) [] says = absurd cc
    members_offend_plain _ _ _ _ (in_member env i items m ms o h) (j ∷ items2) says = in_member env j items2 m ms o (part_offends_plain _ _ _ _ h (j ∷ items2) says)
    members_offend_plain _ _ _ _ (behind_member env middle i items between m ms ts a o h h1) [] says = absurd cc
    members_offend_plain _ _ _ _ (behind_member env middle i items between m ms ts a o h h1) (j ∷ items2) says =
        let r = part_plain _ _ _ _ _ _ _ h (j ∷ items2) says in
        behind_member env middle j items2 r.0 m ms ts a o r.2 (members_offend_plain _ _ _ _ h1 r.0 r.1)

    pub list_offends_plain : (env : Env) (place : Place) (items : List Init) (ty : TypeId) (o : Offence) → ListOffends cs constant env place items ty o → (items2 : List Init) → map plain_init items2 ≡ map plain_init items → ListOffends cs constant env place items2 ty o
    list_offends_plain _ _ _ _ _ (in_filling env place items ty o h) items2 says = in_filling env place items2 ty o (parts_offend_plain _ _ _ _ h items2 says)
    list_offends_plain _ _ _ _ _ (in_one env place e items ty o h h1) items2 says =
        let k = value_first e items items2 says in
        subst (λ z. ListOffends cs constant env place z ty o) (sym k.is) (in_one env place k.expr k.others ty o h (value_offends_plain env e o h1 k.expr k.said))
    list_offends_plain _ _ _ _ _ (in_surplus env middle place items left ty ts tally o h h1) items2 says =
        let r = braces_plain _ _ _ _ _ _ _ h items2 says in
        in_surplus env middle place items2 r.0 ty ts tally o r.2 (surplus_offends_plain _ _ _ h1 r.0 r.1)
    list_offends_plain _ _ _ _ _ (in_braces_for_one env place p inside left ty o h h1) items2 says =
        let k = list_first p inside left items2 says in
        subst (λ z. ListOffends cs constant env place z ty o) (sym k.is) (in_braces_for_one env place p k.list k.others ty o h (surplus_offends_plain _ _ _ h1 (init.Braces p k.list ∷ k.others) (ap (map plain_init) (sym k.is) ∙ says)))
    list_offends_plain _ _ _ _ _ (broken env middle after place items left ty ts tally code h h1 h2) items2 says =
        let r = braces_plain _ _ _ _ _ _ _ h items2 says in
        broken env middle after place items2 r.0 ty ts tally code r.2 (surplus_plain _ _ _ h1 r.0 r.1) (ap (λ z. first_broken (list_tests tally z)) (some_same r.0 left r.1) ∙ h2)
    list_offends_plain _ _ _ _ _ (round_none env place ty) items2 says = subst (λ z. ListOffends cs constant env place z ty (at 324 place)) (sym (no_items items2 says)) (round_none env place ty)
    list_offends_plain _ _ _ _ _ (two_braces env after place p inside left ty h h1) items2 says =
        let k = list_first p inside left items2 says in
        subst (λ z. ListOffends cs constant env place z ty (at 324 place)) (sym k.is) (two_braces env after place p k.list k.others ty h (surplus_plain _ _ _ h1 (init.Braces p k.list ∷ k.others) (ap (map plain_init) (sym k.is) ∙ says)))

  pub all_offend_plain : (env : Env) (items : List Init) (elem : TypeId) (o : Offence) → AllOffend cs constant env items elem o → (items2 : List Init) → map plain_init items2 ≡ map plain_init items → AllOffend cs constant env items2 elem o
  all_offend_plain _ _ _ _ (all_here env i items elem o h) [] says = absurd cc
  all_offend_plain _ _ _ _ (all_here env i items elem o h) (j ∷ items2) says = all_here env j items2 elem o (part_offends_plain _ _ _ _ h (j ∷ items2) says)
  all_offend_plain _ _ _ _ (all_later env middle i items between elem ts a o h h1) [] says = absurd cc
  all_offend_plain _ _ _ _ (all_later env middle i items between elem ts a o h h1) (j ∷ items2) says =
      let r = part_plain _ _ _ _ _ _ _ h (j ∷ items2) says in
      all_later env middle j items2 r.0 elem ts a o r.2 (all_offend_plain _ _ _ _ h1 r.0 r.1)

  pub open_list_offends_plain : (env : Env) (place : Place) (items : List Init) (elem : TypeId) (o : Offence) → OpenListOffends cs constant env place items elem o → (items2 : List Init) → map plain_init items2 ≡ map plain_init items → OpenListOffends cs constant env place items2 elem o
  open_list_offends_plain _ _ _ _ _ (in_all env place items elem o h) items2 says = in_all env place items2 elem o (all_offend_plain _ _ _ _ h items2 says)
  open_list_offends_plain _ _ _ _ _ (open_broken env after place items elem n ts tally code h h1 h2) items2 says =
      open_broken env after place items2 elem n ts tally code (some_same items2 items says ∙ h) (all_plain _ _ _ _ _ _ _ h1 items2 says) h2
  open_list_offends_plain _ _ _ _ _ (open_round_none env place elem) items2 says = subst (λ z. OpenListOffends cs constant env place z elem (at 324 place)) (sym (no_items items2 says)) (open_round_none env place elem)
