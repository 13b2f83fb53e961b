use Rattle.std.proofs.Common.{◌≡◌, ◌+◌, ◌-◌, ◌<◌, ◌≤◌, true, false, Some, None, get_or, refl, sym, ap, ◌∙◌, subst, arith, inl, inr, ◌⊎◌, length, take, drop, nat_lt, slice_get}
use Rattle.std.proofs.lemmas.Result.{IfOk-weaker, IfErr-weaker}
use Rattle.cl_ast.specs.declared.declaration.Init.{Init}
use Rattle.cl_builtins.proofs.Growth.{grown_known}
use Rattle.cl_make.specs.Wanted.{target}
use Rattle.cl_make.proofs.Growing.{members_stay}
use Rattle.cl_tree.specs.declared.shape.Shape.TheVariants as shape
use Rattle.cl_tree.specs.Shapes.{shape_of, members_of}
use Rattle.cl_type_expr.proofs.Nodes.{stop_exit}
use Rattle.cl_variables.specs.Initialisers.{has_parts, takes_whole_at}
use Rattle.cl_variables.specs.Answers.{PartIs, PartStops, PartsAre, PartsStop, ElementsAre, ElementsStop, MembersAre, MembersStop, BracesAre, BracesStop, ListIs, ListStops, IsOneFilled, IsMemberAt, IsBegun}
use Rattle.cl_variables.proofs.Parts.{element_below, struct_parts, member_below}
use Rattle.cl_variables.proofs.Fills.{part_list, part_list_out, part_value_out, part_whole, part_parts, part_parts_out, parts_elements, parts_elements_out, parts_members, parts_members_out, ElementsSoFar, MembersSoFar, elements_start, elements_stop, elements_next, elements_end, members_start, members_stop, members_next, members_end}
use Rattle.cl_variables.proofs.Lists.{braces_parts, braces_parts_out, braces_one, braces_one_out, braces_twice, braces_twice_out, braces_none_out, some_by, none_by, rest_is, list_surplus_out, list_broken_out, list_is}
use Rattle.cl_variables.proofs.filling.+filling.Goals.{elements-then-loop-left-test+else-filled-items, elements-else-loop-left-test, members-then-loop-done-test+else-filled-items, members-else-loop-done-test}
use Rattle.cl_variables.proofs.filling.+filling.Goals as goal

-- ---- a part

-- in Braces
pub part-returns-in_err-listed-in-Braces-clause-out : goal.part-returns-in_err-listed-in-Braces-clause-out
part-returns-in_err-listed-in-Braces-clause-out t c =
    let new = c.list.new.types in
    let here = c.args.names.now in
    let s = c.in_err-listed-in-Braces.field-0.0 in
    stop_exit c.from_residual.result _ _ c.from_residual.ensures.1
    (part_list_out new c.args.constant here c.args.first c.args.items.now c.args.at c.args.ty c.in-Braces.place c.in-Braces.inside c.requires.low
    (subst (λ (z : Init). z ≡ get_or c.args.items.now c.args.at z) c.in-Braces.is c.index-items-at.is) s
    (subst (λ z. ListStops new c.args.constant here c.in-Braces.place z c.args.ty s) c.deref.ensures.value c.in_err-listed-in-Braces.ensures.out))

pub part-returns-in_ok-one-in-Braces-clause-ok : goal.part-returns-in_ok-one-in-Braces-clause-ok
part-returns-in_ok-one-in-Braces-clause-ok t c =
    let new = c.list.new.types in
    let here = c.args.names.now in
    let after = c.list.new.names in
    let r = c.in_ok-listed-in-Braces.listed in
    let f = c.in_ok-one-in-Braces.field-0 in
    part_list new c.args.constant here c.args.first c.args.items.now c.args.at c.args.ty c.in-Braces.place c.in-Braces.inside c.requires.low
    (subst (λ (z : Init). z ≡ get_or c.args.items.now c.args.at z) c.in-Braces.is c.index-items-at.is) after r f
    (subst (λ z. ListIs new c.args.constant here c.in-Braces.place z c.args.ty after r) c.deref.ensures.value c.in_ok-listed-in-Braces.ensures.ok)
    (subst (λ z. IsOneFilled (Some r.tree) (c.args.at + 1) z f) c.only-tally.ensures c.in_ok-one-in-Braces.ensures)

-- in Value

pub part-returns-in_err-valued-in-Value-clause-out : goal.part-returns-in_err-valued-in-Value-clause-out
part-returns-in_err-valued-in-Value-clause-out t c =
    let mid = c.next_value.new.types in
    stop_exit c.from_residual-in_err-valued-in-Value.result _ _ c.from_residual-in_err-valued-in-Value.ensures.1
    (part_value_out mid mid c.args.constant c.args.names.now c.args.first c.args.items.now c.args.at c.args.ty c.in-Value.e c.requires.low
    (subst (λ (z : Init). z ≡ get_or c.args.items.now c.args.at z) c.in-Value.is c.index-items-at.is) c.in_err-valued-in-Value.field-0.0 c.in_err-valued-in-Value.ensures.out)

pub part-returns-then-takes_whole-clause-ok : goal.part-returns-then-takes_whole-clause-ok
part-returns-then-takes_whole-clause-ok t c =
    let mid = c.next_value.new.types in
    let v = c.in_ok-valued-in-Value.valued in
    let takes : takes_whole_at (target mid c.args.ty) v.typed.operand ≡ true = sym (c.takes_whole.ensures ∙ ap (λ z. takes_whole_at z v.typed.operand) c.shaped.ensures) ∙ c.if-takes_whole.true in
    part_whole mid c.whole.new.types c.args.constant c.args.names.now c.args.first c.args.items.now c.args.at c.args.ty c.in-Value.e c.requires.low
    (subst (λ (z : Init). z ≡ get_or c.args.items.now c.args.at z) c.in-Value.is c.index-items-at.is)
    c.next_value.new.names v c.next_value.ensures.grows.table (grown_known c.args.types.now mid c.args.ty c.next_value.ensures.grows.grown c.requires.type_known)
    c.whole.ensures.grows c.in_ok-valued-in-Value.ensures.ok c.in_ok-whole-in-Value.field-0 takes c.in_ok-whole-in-Value.ensures.filled

pub part-returns-else-takes_whole-clause-ok : goal.part-returns-else-takes_whole-clause-ok
part-returns-else-takes_whole-clause-ok t c =
    let old = c.args.types.now in
    let mid = c.next_value.new.types in
    let new = c.parts.new.types in
    let v = c.in_ok-valued-in-Value.valued in
    let after = c.next_value.new.names in
    let last = c.parts.new.names in
    let takes : takes_whole_at (target mid c.args.ty) v.typed.operand ≡ false = sym (c.takes_whole.ensures ∙ ap (λ z. takes_whole_at z v.typed.operand) c.shaped.ensures) ∙ c.if-takes_whole.false in
    IfOk-weaker c.parts.result (PartsAre new c.args.constant after (Some v) c.args.items.now c.args.at c.args.ty last) (PartIs new c.args.constant c.args.names.now c.args.first c.args.items.now c.args.at c.args.ty last)
    (λ f h. part_parts mid new c.args.constant c.args.names.now c.args.first c.args.items.now c.args.at c.args.ty c.in-Value.e c.requires.low
    (subst (λ (z : Init). z ≡ get_or c.args.items.now c.args.at z) c.in-Value.is c.index-items-at.is)
    after v c.next_value.ensures.grows.table (grown_known old mid c.args.ty c.next_value.ensures.grows.grown c.requires.type_known)
    c.parts.ensures.grows c.in_ok-valued-in-Value.ensures.ok last f takes h) c.parts.ensures.ok

pub part-returns-else-takes_whole-clause-out : goal.part-returns-else-takes_whole-clause-out
part-returns-else-takes_whole-clause-out t c =
    let old = c.args.types.now in
    let mid = c.next_value.new.types in
    let new = c.parts.new.types in
    let v = c.in_ok-valued-in-Value.valued in
    let after = c.next_value.new.names in
    let takes : takes_whole_at (target mid c.args.ty) v.typed.operand ≡ false = sym (c.takes_whole.ensures ∙ ap (λ z. takes_whole_at z v.typed.operand) c.shaped.ensures) ∙ c.if-takes_whole.false in
    IfErr-weaker c.parts.result (PartsStop new c.args.constant after (Some v) c.args.items.now c.args.at c.args.ty) (PartStops new c.args.constant c.args.names.now c.args.first c.args.items.now c.args.at c.args.ty)
    (λ s h. part_parts_out mid new c.args.constant c.args.names.now c.args.first c.args.items.now c.args.at c.args.ty c.in-Value.e c.requires.low
    (subst (λ (z : Init). z ≡ get_or c.args.items.now c.args.at z) c.in-Value.is c.index-items-at.is)
    after v c.next_value.ensures.grows.table (grown_known old mid c.args.ty c.next_value.ensures.grows.grown c.requires.type_known)
    c.parts.ensures.grows c.in_ok-valued-in-Value.ensures.ok s takes h) c.parts.ensures.out

-- ---- parts

pub parts-returns-in-Array-clause-ok : goal.parts-returns-in-Array-clause-ok
parts-returns-in-Array-clause-ok t c =
    let old = c.args.types.now in
    let new = c.elements.new.types in
    let here = c.args.names.now in
    let after = c.elements.new.names in
    let is : shape_of old c.args.ty ≡ shape.Array c.in-Array.elem c.in-Array.len c.in-Array.nested = sym (ap (λ z. z.shape) c.shaped.ensures) ∙ c.in-Array.is in
    IfOk-weaker c.elements.result (ElementsAre new c.args.constant here c.args.first c.args.items.now c.args.at c.in-Array.elem c.in-Array.len after) (PartsAre new c.args.constant here c.args.first c.args.items.now c.args.at c.args.ty after)
    (λ f h. parts_elements old new c.args.constant here c.args.first c.args.items.now c.args.at c.args.ty c.is_table.ensures c.requires.type_known c.elements.ensures.grows c.in-Array.elem c.in-Array.len c.in-Array.nested after f is h) c.elements.ensures.ok

pub parts-returns-in-Array-clause-out : goal.parts-returns-in-Array-clause-out
parts-returns-in-Array-clause-out t c =
    let old = c.args.types.now in
    let new = c.elements.new.types in
    let here = c.args.names.now in
    let is : shape_of old c.args.ty ≡ shape.Array c.in-Array.elem c.in-Array.len c.in-Array.nested = sym (ap (λ z. z.shape) c.shaped.ensures) ∙ c.in-Array.is in
    IfErr-weaker c.elements.result (ElementsStop new c.args.constant here c.args.first c.args.items.now c.args.at c.in-Array.elem c.in-Array.len) (PartsStop new c.args.constant here c.args.first c.args.items.now c.args.at c.args.ty)
    (λ s h. parts_elements_out old new c.args.constant here c.args.first c.args.items.now c.args.at c.args.ty c.is_table.ensures c.requires.type_known c.elements.ensures.grows c.in-Array.elem c.in-Array.len c.in-Array.nested s is h) c.elements.ensures.out

pub parts-returns-in-Struct-clause-ok : goal.parts-returns-in-Struct-clause-ok
parts-returns-in-Struct-clause-ok t c =
    let old = c.args.types.now in
    let new = c.members.new.types in
    let here = c.args.names.now in
    let after = c.members.new.names in
    let is : shape_of old c.args.ty ≡ shape.Struct = sym (ap (λ z. z.shape) c.shaped.ensures) ∙ c.in-Struct.is in
    IfOk-weaker c.members.result (MembersAre new c.args.constant here c.args.first c.args.items.now c.args.at c.args.ty after) (PartsAre new c.args.constant here c.args.first c.args.items.now c.args.at c.args.ty after)
    (λ f h. parts_members old new c.args.constant here c.args.first c.args.items.now c.args.at c.args.ty c.is_table.ensures c.requires.type_known c.members.ensures.grows after f is h) c.members.ensures.ok

pub parts-returns-in-Struct-clause-out : goal.parts-returns-in-Struct-clause-out
parts-returns-in-Struct-clause-out t c =
    let old = c.args.types.now in
    let new = c.members.new.types in
    let here = c.args.names.now in
    let is : shape_of old c.args.ty ≡ shape.Struct = sym (ap (λ z. z.shape) c.shaped.ensures) ∙ c.in-Struct.is in
    IfErr-weaker c.members.result (MembersStop new c.args.constant here c.args.first c.args.items.now c.args.at c.args.ty) (PartsStop new c.args.constant here c.args.first c.args.items.now c.args.at c.args.ty)
    (λ s h. parts_members_out old new c.args.constant here c.args.first c.args.items.now c.args.at c.args.ty c.is_table.ensures c.requires.type_known c.members.ensures.grows s is h) c.members.ensures.out

pub elements-loop-left-init : goal.elements-loop-left-init
elements-loop-left-init t c =
    elements_start c.args.types.now c.args.constant c.args.names.now c.args.first c.args.items.now c.args.at c.args.elem c.args.len c.new-filled.result c.is_table.ensures c.requires.low c.requires.type_known c.requires.begun c.requires.known c.new-filled.ensures.trees c.new-filled.ensures.next c.new-filled.ensures.tally

pub elements-loop-left-preserved : goal.elements-loop-left-preserved
elements-loop-left-preserved t c =
    subst (λ z. ElementsSoFar c.args.types.now c.part.new.types c.args.constant c.args.names.now c.args.first c.args.items.now c.args.at c.args.elem c.args.len c.part.new.names z (c.loop-left.left - 1) c.join.new.self) (sym c.take.ensures.after)
    (elements_next c.args.types.now c.loop-left.types c.part.new.types c.args.constant c.args.names.now c.args.first c.args.items.now c.args.at c.args.elem c.args.len c.loop-left.names c.loop-left.begun c.loop-left.left c.loop-left.filled c.loop-left.invariant
    (omega arith) (omega arith) c.part.ensures.grows c.part.new.names c.in_ok-part.part c.join.new.self (c.loop-left.left - 1)
    (subst (λ z. PartIs c.part.new.types c.args.constant c.loop-left.names z c.args.items.now c.loop-left.filled.next c.args.elem c.part.new.names c.in_ok-part.part) c.take.ensures.value c.in_ok-part.ensures.ok) c.in_ok-join.ensures.trees c.in_ok-join.ensures.next c.in_ok-join.ensures.tally refl)

pub elements-returns-in_err-part-clause-out : goal.elements-returns-in_err-part-clause-out
elements-returns-in_err-part-clause-out t c =
    stop_exit c.from_residual.result _ _ c.from_residual.ensures.1
    (elements_stop c.args.types.now c.loop-left.types c.part.new.types c.args.constant c.args.names.now c.args.first c.args.items.now c.args.at c.args.elem c.args.len c.loop-left.names c.loop-left.begun c.loop-left.left c.loop-left.filled c.loop-left.invariant
    (omega arith) (omega arith) c.part.ensures.grows c.in_err-part.field-0.0
    (subst (λ z. PartStops c.part.new.types c.args.constant c.loop-left.names z c.args.items.now c.loop-left.filled.next c.args.elem c.in_err-part.field-0.0) c.take.ensures.value c.in_err-part.ensures.out))

-- ---- members

pub members-loop-done-init : goal.members-loop-done-init
members-loop-done-init t c =
    members_start c.args.types.now c.args.constant c.args.names.now c.args.first c.args.items.now c.args.at c.args.ty c.new-filled.result c.is_table.ensures c.requires.low c.requires.type_known c.requires.begun c.requires.known c.new-filled.ensures.trees c.new-filled.ensures.next c.new-filled.ensures.tally

pub members-loop-done-preserved : goal.members-loop-done-preserved
members-loop-done-preserved t c =
    let same : members_of c.loop-done.types c.args.ty ≡ members_of c.args.types.now c.args.ty = members_stay c.args.types.now c.loop-done.types c.args.ty c.loop-done.invariant.so.grown.grown c.requires.type_known in
    let low : c.loop-done.done < length (members_of c.loop-done.types c.args.ty) = subst (λ ms. c.loop-done.done < length ms) (sym same) (subst (λ n. c.loop-done.done < n) c.count_of-count.ensures c.loop-done-test.true) in
    let is : IsMemberAt (members_of c.loop-done.types c.args.ty) c.loop-done.done c.member_type-member.result = c.member_type-member.ensures in
    subst (λ z. MembersSoFar c.args.types.now c.part.new.types c.args.constant c.args.names.now c.args.first c.args.items.now c.args.at c.args.ty c.part.new.names z (c.loop-done.done + 1) c.join.new.self) (sym c.take.ensures.after)
    (members_next c.args.types.now c.loop-done.types c.part.new.types c.args.constant c.args.names.now c.args.first c.args.items.now c.args.at c.args.ty c.loop-done.names c.loop-done.begun c.loop-done.done c.loop-done.filled c.loop-done.invariant
    c.if-filled-items.true low c.part.ensures.grows c.member_type-member.result is c.part.new.names c.in_ok-part.part c.join.new.self
    (subst (λ z. PartIs c.part.new.types c.args.constant c.loop-done.names z c.args.items.now c.loop-done.filled.next c.member_type-member.result c.part.new.names c.in_ok-part.part) c.take.ensures.value c.in_ok-part.ensures.ok) c.in_ok-join.ensures.trees c.in_ok-join.ensures.next c.in_ok-join.ensures.tally)

pub members-returns-in_err-part-clause-out : goal.members-returns-in_err-part-clause-out
members-returns-in_err-part-clause-out t c =
    let same : members_of c.loop-done.types c.args.ty ≡ members_of c.args.types.now c.args.ty = members_stay c.args.types.now c.loop-done.types c.args.ty c.loop-done.invariant.so.grown.grown c.requires.type_known in
    let low : c.loop-done.done < length (members_of c.loop-done.types c.args.ty) = subst (λ ms. c.loop-done.done < length ms) (sym same) (subst (λ n. c.loop-done.done < n) c.count_of-count.ensures c.loop-done-test.true) in
    stop_exit c.from_residual.result _ _ c.from_residual.ensures.1
    (members_stop c.args.types.now c.loop-done.types c.part.new.types c.args.constant c.args.names.now c.args.first c.args.items.now c.args.at c.args.ty c.loop-done.names c.loop-done.begun c.loop-done.done c.loop-done.filled c.loop-done.invariant
    c.if-filled-items.true low c.part.ensures.grows c.member_type-member.result c.member_type-member.ensures c.in_err-part.field-0.0
    (subst (λ z. PartStops c.part.new.types c.args.constant c.loop-done.names z c.args.items.now c.loop-done.filled.next c.member_type-member.result c.in_err-part.field-0.0) c.take.ensures.value c.in_err-part.ensures.out))

-- ---- items in braces

pub in_braces-returns-then-is_empty-clause-out : goal.in_braces-returns-then-is_empty-clause-out
in_braces-returns-then-is_empty-clause-out t c =
    subst (BracesStop c.args.types.now c.args.constant c.args.names.now c.args.place c.args.items.now c.args.ty) (sym c.out.ensures)
    (braces_none_out c.args.types.now c.args.constant c.args.names.now c.args.place c.args.items.now c.args.ty (none_by c.args.items.now (sym c.is_empty.ensures ∙ c.if-is_empty.true)))

pub in_braces-returns-then-has_parts-clause-ok : goal.in_braces-returns-then-has_parts-clause-ok
in_braces-returns-then-has_parts-clause-ok t c =
    let new = c.parts.new.types in
    let here = c.args.names.now in
    let after = c.parts.new.names in
    IfOk-weaker c.parts.result (PartsAre new c.args.constant here None c.args.items.now 0 c.args.ty after) (BracesAre new c.args.constant here c.args.items.now c.args.ty after)
    (λ f h. braces_parts new c.args.constant here c.args.items.now c.args.ty after f (some_by c.args.items.now (sym c.is_empty.ensures ∙ c.if-is_empty.false)) h) c.parts.ensures.ok

pub in_braces-returns-then-has_parts-clause-out : goal.in_braces-returns-then-has_parts-clause-out
in_braces-returns-then-has_parts-clause-out t c =
    let new = c.parts.new.types in
    let here = c.args.names.now in
    IfErr-weaker c.parts.result (PartsStop new c.args.constant here None c.args.items.now 0 c.args.ty) (BracesStop new c.args.constant here c.args.place c.args.items.now c.args.ty)
    (λ s h. braces_parts_out new c.args.constant here c.args.place c.args.items.now c.args.ty s h) c.parts.ensures.out

pub in_braces-returns-in_err-surplus-in-Braces-clause-out : goal.in_braces-returns-in_err-surplus-in-Braces-clause-out
in_braces-returns-in_err-surplus-in-Braces-clause-out t c =
    let apart : has_parts (shape_of c.args.types.now c.args.ty) ≡ false = sym (c.has_parts.ensures ∙ ap (λ z. has_parts z.shape) c.shaped.ensures) ∙ c.if-has_parts.false in
    stop_exit c.from_residual.result _ _ c.from_residual.ensures.1
    (braces_twice_out c.args.types.now c.args.constant c.args.names.now c.args.items.now c.args.ty c.is_table.ensures c.requires.type_known apart (some_by c.args.items.now (sym c.is_empty.ensures ∙ c.if-is_empty.false)) c.in-Braces.place c.in-Braces.items
    (subst (λ (z : Init). z ≡ get_or c.args.items.now 0 z) c.in-Braces.is c.index-items-0.is) c.surplus.new.types c.args.place c.in_err-surplus-in-Braces.field-0.0 c.surplus.ensures.grows c.in_err-surplus-in-Braces.ensures.out)

pub in_braces-returns-in_ok-surplus-in-Braces-clause-out : goal.in_braces-returns-in_ok-surplus-in-Braces-clause-out
in_braces-returns-in_ok-surplus-in-Braces-clause-out t c =
    let apart : has_parts (shape_of c.args.types.now c.args.ty) ≡ false = sym (c.has_parts.ensures ∙ ap (λ z. has_parts z.shape) c.shaped.ensures) ∙ c.if-has_parts.false in
    subst (BracesStop c.surplus.new.types c.args.constant c.args.names.now c.args.place c.args.items.now c.args.ty) (sym c.out-in-Braces.ensures)
    (braces_twice c.args.types.now c.args.constant c.args.names.now c.args.items.now c.args.ty c.is_table.ensures c.requires.type_known apart (some_by c.args.items.now (sym c.is_empty.ensures ∙ c.if-is_empty.false)) c.in-Braces.place c.in-Braces.items
    (subst (λ (z : Init). z ≡ get_or c.args.items.now 0 z) c.in-Braces.is c.index-items-0.is) c.surplus.new.types c.args.place c.surplus.new.names c.surplus.ensures.grows c.in_ok-surplus-in-Braces.ensures.ok)

pub in_braces-returns-in_err-valued-in-Value-clause-out : goal.in_braces-returns-in_err-valued-in-Value-clause-out
in_braces-returns-in_err-valued-in-Value-clause-out t c =
    let apart : has_parts (shape_of c.args.types.now c.args.ty) ≡ false = sym (c.has_parts.ensures ∙ ap (λ z. has_parts z.shape) c.shaped.ensures) ∙ c.if-has_parts.false in
    stop_exit c.from_residual-in_err-valued-in-Value.result _ _ c.from_residual-in_err-valued-in-Value.ensures.1
    (braces_one_out c.args.types.now c.args.constant c.args.names.now c.args.items.now c.args.ty c.is_table.ensures c.requires.type_known apart (some_by c.args.items.now (sym c.is_empty.ensures ∙ c.if-is_empty.false)) c.in-Value.e
    (subst (λ (z : Init). z ≡ get_or c.args.items.now 0 z) c.in-Value.is c.index-items-0.is) c.value.new.types c.args.place c.in_err-valued-in-Value.field-0.0 c.value.ensures.grows c.in_err-valued-in-Value.ensures.out)

pub in_braces-returns-in_ok-whole-in-Value-clause-ok : goal.in_braces-returns-in_ok-whole-in-Value-clause-ok
in_braces-returns-in_ok-whole-in-Value-clause-ok t c =
    let apart : has_parts (shape_of c.args.types.now c.args.ty) ≡ false = sym (c.has_parts.ensures ∙ ap (λ z. has_parts z.shape) c.shaped.ensures) ∙ c.if-has_parts.false in
    braces_one c.args.types.now c.args.constant c.args.names.now c.args.items.now c.args.ty c.is_table.ensures c.requires.type_known apart (some_by c.args.items.now (sym c.is_empty.ensures ∙ c.if-is_empty.false)) c.in-Value.e
    (subst (λ (z : Init). z ≡ get_or c.args.items.now 0 z) c.in-Value.is c.index-items-0.is) c.value.new.types c.whole.new.types c.value.new.names c.in_ok-valued-in-Value.valued c.in_ok-whole-in-Value.field-0
    c.value.ensures.grows c.whole.ensures.grows c.in_ok-valued-in-Value.ensures.ok c.in_ok-whole-in-Value.ensures.filled

-- ---- a list in braces

pub list-returns-in_err-surplus-clause-out : goal.list-returns-in_err-surplus-clause-out
list-returns-in_err-surplus-clause-out t c =
    stop_exit c.from_residual-in_err-surplus.result _ _ c.from_residual-in_err-surplus.ensures.1
    (list_surplus_out c.in_braces.new.types c.surplus.new.types c.args.constant c.args.names.now c.args.place c.args.items.now (take (length c.args.items.now - c.in_ok-filled.filled.next) (drop c.in_ok-filled.filled.next c.args.items.now)) c.args.ty c.in_braces.new.names c.in_ok-filled.filled c.in_ok-filled.ensures.ok c.surplus.ensures.grows (rest_is c.args.items.now c.in_ok-filled.filled.next)
    c.in_err-surplus.field-0.0 c.in_err-surplus.ensures.out)

pub list-returns-in-Some-clause-out : goal.list-returns-in-Some-clause-out
list-returns-in-Some-clause-out t c =
    subst (ListStops c.surplus.new.types c.args.constant c.args.names.now c.args.place c.args.items.now c.args.ty) (sym c.out.ensures)
    (list_broken_out c.in_braces.new.types c.surplus.new.types c.args.constant c.args.names.now c.args.place c.args.items.now (take (length c.args.items.now - c.in_ok-filled.filled.next) (drop c.in_ok-filled.filled.next c.args.items.now)) c.args.ty c.in_braces.new.names c.in_ok-filled.filled c.in_ok-filled.ensures.ok c.surplus.ensures.grows (rest_is c.args.items.now c.in_ok-filled.filled.next) c.surplus.new.names c.in_ok-surplus.ensures.ok (nat_lt c.in_ok-filled.filled.next (length c.args.items.now)) refl c.in-Some.code (sym c.list_broken.ensures ∙ c.in-Some.is))

pub list-returns-clause-ok : goal.list-returns-clause-ok
list-returns-clause-ok t c =
    list_is c.in_braces.new.types c.surplus.new.types c.args.constant c.args.names.now c.args.place c.args.items.now (take (length c.args.items.now - c.in_ok-filled.filled.next) (drop c.in_ok-filled.filled.next c.args.items.now)) c.args.ty c.in_braces.new.names c.in_ok-filled.filled c.in_ok-filled.ensures.ok c.surplus.ensures.grows (rest_is c.args.items.now c.in_ok-filled.filled.next) c.surplus.new.names c.in_ok-surplus.ensures.ok (nat_lt c.in_ok-filled.filled.next (length c.args.items.now)) refl (record { tree = c.fill-tree.result; varies = c.in_ok-filled.filled.tally.varies }) (sym c.list_broken.ensures ∙ c.in_default.is) c.fill-tree.ensures refl

pub elements-returns-clause-ok : goal.elements-returns-clause-ok
elements-returns-clause-ok t c =
    elements_end c.args.types.now c.loop-left.types c.args.constant c.args.names.now c.args.first c.args.items.now c.args.at c.args.elem c.args.len c.loop-left.names c.loop-left.begun c.loop-left.left c.loop-left.filled c.loop-left.invariant c.requires.some c.requires.low
    (elim c.loop-left-test.branch as (λ b. (c.loop-left.left ≡ 0) ⊎ (length c.args.items.now ≤ c.loop-left.filled.next)) [ elements-then-loop-left-test+else-filled-items w ↦ inr w.if-filled-items.false | elements-else-loop-left-test w ↦ inl (omega (arith, w.loop-left-test.false)) ])

pub members-member_type-member-requires-clause-low : goal.members-member_type-member-requires-clause-low
members-member_type-member-requires-clause-low t c =
    let old = c.args.types.now in
    let now = c.loop-done.types in
    let same : members_of now c.args.ty ≡ members_of old c.args.ty = members_stay old now c.args.ty c.loop-done.invariant.so.grown.grown c.requires.type_known in
    subst (λ ms. c.loop-done.done < length ms) (sym same) (subst (λ n. c.loop-done.done < n) c.count_of-count.ensures c.loop-done-test.true)

pub members-part-requires : goal.members-part-requires
members-part-requires t c =
    let old = c.args.types.now in
    let now = c.loop-done.types in
    let same : members_of now c.args.ty ≡ members_of old c.args.ty = members_stay old now c.args.ty c.loop-done.invariant.so.grown.grown c.requires.type_known in
    let parts = struct_parts old c.args.ty c.is_table.ensures c.requires.type_known c.requires.is in
    let m : IsMemberAt (members_of now c.args.ty) c.loop-done.done c.member_type-member.result = c.member_type-member.ensures in
    let first : m.0.ty.0 < c.args.ty.0 = member_below c.args.ty.0 (members_of old c.args.ty) c.loop-done.done m.0 parts.0 (ap (λ ms. slice_get ms c.loop-done.done) (sym same) ∙ m.1) in
    let below : c.member_type-member.result.0 < c.args.ty.0 = subst (λ u. u.0 < c.args.ty.0) m.2 first in
    let known = c.loop-done.invariant.type_known in
    (omega (arith, below, c.decreases), (c.loop-done.invariant.so.known, (omega (arith, below, known), (subst (IsBegun now) (sym c.take.ensures.value) c.loop-done.invariant.so.begun, c.if-filled-items.true))))

pub members-returns-clause-ok : goal.members-returns-clause-ok
members-returns-clause-ok t c =
    let old = c.args.types.now in
    let now = c.loop-done.types in
    let same : members_of now c.args.ty ≡ members_of old c.args.ty = members_stay old now c.args.ty c.loop-done.invariant.so.grown.grown c.requires.type_known in
    let parts = struct_parts old c.args.ty c.is_table.ensures c.requires.type_known c.requires.is in
    members_end old now c.args.constant c.args.names.now c.args.first c.args.items.now c.args.at c.args.ty c.loop-done.names c.loop-done.begun c.loop-done.done c.loop-done.filled c.loop-done.invariant
    (subst (λ ms. 0 < length ms) (sym same) parts.1) c.requires.low
    (elim c.loop-done-test.branch as (λ b. (length (members_of now c.args.ty) ≤ c.loop-done.done) ⊎ (length c.args.items.now ≤ c.loop-done.filled.next)) [
      | members-then-loop-done-test+else-filled-items w ↦ inr w.if-filled-items.false
      | members-else-loop-done-test w ↦ inl (subst (λ ms. length ms ≤ c.loop-done.done) (sym same) (subst (λ n. n ≤ c.loop-done.done) c.count_of-count.ensures w.loop-done-test.false))
    ])

pub parts-elements-requires : goal.parts-elements-requires
parts-elements-requires t c =
    let is : shape_of c.args.types.now c.args.ty ≡ shape.Array c.in-Array.elem c.in-Array.len c.in-Array.nested = sym (ap (λ z. z.shape) c.shaped.ensures) ∙ c.in-Array.is in
    let below = element_below c.args.types.now c.args.ty c.in-Array.elem c.in-Array.len c.in-Array.nested c.is_table.ensures c.requires.type_known is in
    let known = c.requires.type_known in
    (omega (arith, below, c.decreases), (c.requires.known, (omega (arith, below, known), (below.1, (c.requires.begun, c.requires.low)))))
