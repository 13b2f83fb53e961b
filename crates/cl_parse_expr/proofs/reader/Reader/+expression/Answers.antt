use Rattle.std.proofs.Common.{◌≡◌, ◌+◌, ◌-◌, ◌*◌, length, refl, arith, ◌∙◌, sym}
use Rattle.cl_grammar.proofs.Places.{no_memory}
use Rattle.cl_parse_expr.proofs.Built.{built_declor}
use Rattle.cl_parse_expr.proofs.Steps.{spec_out, kept, failed, kept_two, kept_three, mark_more, assigned_more, incremented_more, prefixed_more, typed_more, call_more, comma_within, no_memory_out, cond_taken, cond_out, assign_typed, assign_untyped, assign_untyped_out, assigned_taken, assigned_out, no_choice_taken, chosen_taken, chosen_out, cast_untyped, cast_out_words, typed_at, typed_within, typed_forth, cast_out_type, literal_out_operands, cast_out_operand, incremented_taken, incremented_out, prefixed_taken, prefixed_out, postfix_taken, sized_taken, sized_out_words, brackets_taken}
use Rattle.cl_parse_expr.proofs.Members.{stopped, not_ok, spec_whole, no_type_memory, tag_within, bracket_more, comma_more, base_ok, base_out, members_begin, members_within, members_room, members_forth, member_behind, members_go_on, words_out, names_out, struct_ok, struct_unclosed, names_begin, names_first_out, names_go_on, names_next_out, NoName, full, no_comma, names_close, names_unclosed, lengths_begin, lengths_forth, lengths_more_missing, lengths_more_given, length_out, length_unclosed, declor_at}
use Rattle.cl_parse_expr.proofs.Readings.{operands_refused, assign_refused_by_cond, assign_refused_unary, cond_refused, behind_refused_row, behind_refused_yes, behind_refused_colon, row_next, cast_refused_unary, unary_refused_postfix, sized_refused_unary, postfix_refused_primary, primary_refused_inner, primary_refused_close, primary_refused_arguments}
use Rattle.cl_parse_expr.proofs.SoFar.{operands_begin, operands_go_on, operands_refused_next, operands_end, row_begins, row_goes_on, row_refused_next, row_end, suffixes_begin, suffixes_index, suffixes_refused_index, suffixes_refused_bracket, suffixes_go_on, suffixes_refused, suffixes_end}
use Rattle.cl_grammar.specs.Symbols as sym
use Rattle.cl_parse_expr.proofs.reader.Reader.+expression.Goals as goal
use Rattle.cl_parse_expr.proofs.reader.Reader.+expression.Goals.{names-then-loop-alloc-test+else-is_at, names-else-loop-alloc-test}

pub operands-assign-requires : goal.operands-assign-requires
operands-assign-requires t c = (let d : 32 * (length c.args.self.now - c.args.at) + 20 ≡ t = c.decreases in omega (arith, d), (c.requires.ends, c.requires.within))

pub operands-returns-in_err-first-clause-ok : goal.operands-returns-in_err-first-clause-ok
operands-returns-in_err-first-clause-ok t c = not_ok _ _ _ c.from_residual.ensures.1

pub operands-returns-in_err-first-clause-out : goal.operands-returns-in_err-first-clause-out
operands-returns-in_err-first-clause-out t c = stopped _ _ _ c.from_residual.ensures.1 (operands_refused _ _ _ c.requires.within c.in_err-first.ensures.out)

pub operands-loop-alloc-init : goal.operands-loop-alloc-init
operands-loop-alloc-init t c = operands_begin _ _ c.in_ok-first.first _ c.requires.within c.in_ok-first.ensures.ok c.of-operands.ensures.first c.of-operands.ensures.comma c.of-operands.ensures.others c.of-operands.ensures.next

pub operands-is_at-requires : goal.operands-is_at-requires
operands-is_at-requires t c = c.loop-alloc.invariant.read.within

pub operands-overflow_add-operands : goal.operands-overflow_add-operands
operands-overflow_add-operands t c = let w = c.loop-alloc.invariant.read.within in omega (arith, c.is_at.ensures.room, w)

pub operands-assign-requires-in-loop-alloc : goal.operands-assign-requires-in-loop-alloc
operands-assign-requires-in-loop-alloc t c = (let d : 32 * (length c.args.self.now - c.args.at) + 20 ≡ t = c.decreases in let f0 = c.loop-alloc.invariant.forth in let f1 = comma_more _ _ c.requires.ends c.loop-alloc-test.ensures.stands in omega (arith, d, f0, f1), (c.requires.ends, comma_more _ _ c.requires.ends c.loop-alloc-test.ensures.stands))

pub operands-returns-in_err-other-clause-ok : goal.operands-returns-in_err-other-clause-ok
operands-returns-in_err-other-clause-ok t c = not_ok _ _ _ c.from_residual-in_err-other.ensures.1

pub operands-returns-in_err-other-clause-out : goal.operands-returns-in_err-other-clause-out
operands-returns-in_err-other-clause-out t c = stopped _ _ _ c.from_residual-in_err-other.ensures.1 (operands_refused_next _ _ _ _ c.requires.ends c.loop-alloc.invariant c.loop-alloc-test.ensures.stands c.in_err-other.ensures.out)

pub operands-returns-in_err-operands-clause-ok : goal.operands-returns-in_err-operands-clause-ok
operands-returns-in_err-operands-clause-ok t c = not_ok _ _ _ c.from_residual-in_err-operands.ensures.1

pub operands-returns-in_err-operands-clause-out : goal.operands-returns-in_err-operands-clause-out
operands-returns-in_err-operands-clause-out t c = stopped _ _ _ c.from_residual-in_err-operands.ensures.1 (no_memory _ _ _)

pub operands-loop-alloc-smaller : goal.operands-loop-alloc-smaller
operands-loop-alloc-smaller t c = let w = c.loop-alloc.invariant.read.within in let f = c.in_ok-other.ensures.ok.forth in let n = c.in_ok-operands.ensures.next in omega (arith, w, f, n)

pub operands-loop-alloc-preserved : goal.operands-loop-alloc-preserved
operands-loop-alloc-preserved t c = operands_go_on _ _ _ c.in_ok-other.other _ c.requires.ends c.loop-alloc.invariant c.loop-alloc-test.ensures.stands c.in_ok-other.ensures.ok c.in_ok-operands.ensures.first c.in_ok-operands.ensures.comma c.in_ok-operands.ensures.others c.in_ok-operands.ensures.next

pub operands-returns-clause-ok : goal.operands-returns-clause-ok
operands-returns-clause-ok t c = operands_end _ _ _ c.loop-alloc.invariant c.loop-alloc-test.ensures.stands

pub assign-begins_type_in_brackets-requires-clause-ends : goal.assign-begins_type_in_brackets-requires-clause-ends
assign-begins_type_in_brackets-requires-clause-ends t c = c.requires.ends

pub assign-begins_type_in_brackets-requires-clause-within : goal.assign-begins_type_in_brackets-requires-clause-within
assign-begins_type_in_brackets-requires-clause-within t c = c.requires.within

pub assign-cond-requires : goal.assign-cond-requires
assign-cond-requires t c = (let d : 32 * (length c.args.self.now - c.args.at) + 18 ≡ t = c.decreases in omega (arith, d), (c.requires.ends, c.requires.within))

pub assign-returns-then-begins_type_in_brackets-clause-ok : goal.assign-returns-then-begins_type_in_brackets-clause-ok
assign-returns-then-begins_type_in_brackets-clause-ok t c = kept _ _ c.cond.result (λ x h. assign_typed c.args.self.now c.args.at x c.requires.within c.if-begins_type_in_brackets.ensures.stands h) c.cond.ensures.ok

pub assign-returns-then-begins_type_in_brackets-clause-out : goal.assign-returns-then-begins_type_in_brackets-clause-out
assign-returns-then-begins_type_in_brackets-clause-out t c = failed _ _ c.cond.result (λ x h. assign_refused_by_cond c.args.self.now c.args.at x c.requires.within c.if-begins_type_in_brackets.ensures.stands h) c.cond.ensures.out

pub assign-unary-requires : goal.assign-unary-requires
assign-unary-requires t c = (let d : 32 * (length c.args.self.now - c.args.at) + 18 ≡ t = c.decreases in omega (arith, d), (c.requires.ends, c.requires.within))

pub assign-returns-in_err-left-clause-ok : goal.assign-returns-in_err-left-clause-ok
assign-returns-in_err-left-clause-ok t c = not_ok _ _ _ c.from_residual.ensures.1

pub assign-returns-in_err-left-clause-out : goal.assign-returns-in_err-left-clause-out
assign-returns-in_err-left-clause-out t c = stopped _ _ _ c.from_residual.ensures.1 (assign_refused_unary _ _ _ c.requires.within c.if-begins_type_in_brackets.ensures.stands c.in_err-left.ensures.out)

pub assign-peek-requires : goal.assign-peek-requires
assign-peek-requires t c = c.in_ok-left.ensures.ok.read.read.within

pub assign-behind_cast-requires : goal.assign-behind_cast-requires
assign-behind_cast-requires t c = (let d : 32 * (length c.args.self.now - c.args.at) + 18 ≡ t = c.decreases in let f0 = c.in_ok-left.ensures.ok.forth in let f1 = c.in_ok-left.ensures.ok.read.read.within in omega (arith, d, f0, f1), (c.requires.ends, c.in_ok-left.ensures.ok.read.read.within))

pub assign-returns-in_default-clause-ok : goal.assign-returns-in_default-clause-ok
assign-returns-in_default-clause-ok t c = kept _ _ c.behind_cast.result (λ x h. assign_untyped c.args.self.now c.args.at c.in_ok-left.left x c.peek.result c.requires.within c.if-begins_type_in_brackets.ensures.stands c.in_ok-left.ensures.ok c.peek.ensures.stands (sym c.assignment.ensures ∙ c.in_default.is) h) c.behind_cast.ensures.ok

pub assign-returns-in_default-clause-out : goal.assign-returns-in_default-clause-out
assign-returns-in_default-clause-out t c = failed _ _ c.behind_cast.result (λ x h. assign_untyped_out c.args.self.now c.args.at c.in_ok-left.left c.peek.result x c.requires.within c.if-begins_type_in_brackets.ensures.stands c.in_ok-left.ensures.ok c.peek.ensures.stands (sym c.assignment.ensures ∙ c.in_default.is) h) c.behind_cast.ensures.out

pub assign-overflow_add-left : goal.assign-overflow_add-left
assign-overflow_add-left t c = let w = c.in_ok-left.ensures.ok.read.read.within in omega (arith, c.peek.ensures.room, w)

pub assign-assign-requires : goal.assign-assign-requires
assign-assign-requires t c = (let d : 32 * (length c.args.self.now - c.args.at) + 18 ≡ t = c.decreases in let f0 = c.in_ok-left.ensures.ok.forth in let f1 = assigned_more c.args.self.now c.args.at c.in_ok-left.left c.peek.result c.in-Some.op c.requires.ends c.requires.within c.in_ok-left.ensures.ok c.peek.ensures.stands (sym c.assignment.ensures ∙ c.in-Some.is) in omega (arith, d, f0, f1), (c.requires.ends, assigned_more c.args.self.now c.args.at c.in_ok-left.left c.peek.result c.in-Some.op c.requires.ends c.requires.within c.in_ok-left.ensures.ok c.peek.ensures.stands (sym c.assignment.ensures ∙ c.in-Some.is)))

pub assign-returns-in_err-right-clause-ok : goal.assign-returns-in_err-right-clause-ok
assign-returns-in_err-right-clause-ok t c = not_ok _ _ _ c.from_residual-in_err-right.ensures.1

pub assign-returns-in_err-right-clause-out : goal.assign-returns-in_err-right-clause-out
assign-returns-in_err-right-clause-out t c = stopped _ _ _ c.from_residual-in_err-right.ensures.1 (assigned_out _ _ c.in_ok-left.left c.peek.result c.in-Some.op _ c.requires.ends c.requires.within c.if-begins_type_in_brackets.ensures.stands c.in_ok-left.ensures.ok c.peek.ensures.stands (sym c.assignment.ensures ∙ c.in-Some.is) c.in_err-right.ensures.out)

pub assign-assigned-requires : goal.assign-assigned-requires
assign-assigned-requires t c = record { within = c.in_ok-left.ensures.ok.read.read.within }

pub assign-returns-in_err-assigned-clause-ok : goal.assign-returns-in_err-assigned-clause-ok
assign-returns-in_err-assigned-clause-ok t c = not_ok _ _ _ c.from_residual-in_err-assigned.ensures.1

pub assign-returns-in_err-assigned-clause-out : goal.assign-returns-in_err-assigned-clause-out
assign-returns-in_err-assigned-clause-out t c = stopped _ _ _ c.from_residual-in_err-assigned.ensures.1 (no_memory _ _ _)

pub assign-returns-clause-ok : goal.assign-returns-clause-ok
assign-returns-clause-ok t c = assigned_taken _ _ c.in_ok-left.left c.in_ok-right.right _ c.peek.result c.in-Some.op c.requires.ends c.requires.within c.if-begins_type_in_brackets.ensures.stands c.in_ok-left.ensures.ok c.peek.ensures.stands (sym c.assignment.ensures ∙ c.in-Some.is) c.in_ok-right.ensures.ok c.in_ok-assigned.ensures.tree c.in_ok-assigned.ensures.next

pub cond-cast-requires : goal.cond-cast-requires
cond-cast-requires t c = (let d : 32 * (length c.args.self.now - c.args.at) + 17 ≡ t = c.decreases in omega (arith, d), (c.requires.ends, c.requires.within))

pub cond-returns-in_err-first-clause-ok : goal.cond-returns-in_err-first-clause-ok
cond-returns-in_err-first-clause-ok t c = not_ok _ _ _ c.from_residual.ensures.1

pub cond-returns-in_err-first-clause-out : goal.cond-returns-in_err-first-clause-out
cond-returns-in_err-first-clause-out t c = stopped _ _ _ c.from_residual.ensures.1 (cond_refused _ _ _ c.requires.within c.in_err-first.ensures.out)

pub cond-behind_cast-requires : goal.cond-behind_cast-requires
cond-behind_cast-requires t c = (let d : 32 * (length c.args.self.now - c.args.at) + 17 ≡ t = c.decreases in let f0 = c.in_ok-first.ensures.ok.forth in let f1 = c.in_ok-first.ensures.ok.read.read.within in omega (arith, d, f0, f1), (c.requires.ends, c.in_ok-first.ensures.ok.read.read.within))

pub cond-returns-clause-ok : goal.cond-returns-clause-ok
cond-returns-clause-ok t c = kept _ _ c.behind_cast.result (λ x h. cond_taken c.args.self.now c.args.at c.in_ok-first.first x c.requires.within c.in_ok-first.ensures.ok h) c.behind_cast.ensures.ok

pub cond-returns-clause-out : goal.cond-returns-clause-out
cond-returns-clause-out t c = failed _ _ c.behind_cast.result (λ x h. cond_out c.args.self.now c.args.at c.in_ok-first.first x c.requires.within c.in_ok-first.ensures.ok h) c.behind_cast.ensures.out

pub behind_cast-row-requires : goal.behind_cast-row-requires
behind_cast-row-requires t c = (let d : 32 * (length c.args.self.now - c.args.first.next) + 16 ≡ t = c.decreases in omega (arith, d), (c.requires.ends, c.requires.within))

pub behind_cast-returns-in_err-test-clause-ok : goal.behind_cast-returns-in_err-test-clause-ok
behind_cast-returns-in_err-test-clause-ok t c = not_ok _ _ _ c.from_residual.ensures.1

pub behind_cast-returns-in_err-test-clause-out : goal.behind_cast-returns-in_err-test-clause-out
behind_cast-returns-in_err-test-clause-out t c = stopped _ _ _ c.from_residual.ensures.1 (behind_refused_row _ _ _ c.requires.within c.in_err-test.ensures.out)

pub behind_cast-is_at-requires : goal.behind_cast-is_at-requires
behind_cast-is_at-requires t c = c.in_ok-test.ensures.ok.read.read.within

pub behind_cast-returns-then-not-is_at-clause-ok : goal.behind_cast-returns-then-not-is_at-clause-ok
behind_cast-returns-then-not-is_at-clause-ok t c = no_choice_taken _ _ _ c.requires.within c.in_ok-test.ensures.ok c.if-not-is_at.ensures.stands

pub behind_cast-overflow_add-test : goal.behind_cast-overflow_add-test
behind_cast-overflow_add-test t c = let w = c.in_ok-test.ensures.ok.read.read.within in omega (arith, c.is_at.ensures.room, w)

pub behind_cast-assign-requires : goal.behind_cast-assign-requires
behind_cast-assign-requires t c = (let d : 32 * (length c.args.self.now - c.args.first.next) + 16 ≡ t = c.decreases in let f0 = c.in_ok-test.ensures.ok.read.read.forth in let f1 = mark_more _ _ _ c.requires.ends c.if-not-is_at.ensures.stands refl in omega (arith, d, f0, f1), (c.requires.ends, mark_more _ _ _ c.requires.ends c.if-not-is_at.ensures.stands refl))

pub behind_cast-returns-in_err-yes-clause-ok : goal.behind_cast-returns-in_err-yes-clause-ok
behind_cast-returns-in_err-yes-clause-ok t c = not_ok _ _ _ c.from_residual-in_err-yes.ensures.1

pub behind_cast-returns-in_err-yes-clause-out : goal.behind_cast-returns-in_err-yes-clause-out
behind_cast-returns-in_err-yes-clause-out t c = stopped _ _ _ c.from_residual-in_err-yes.ensures.1 (behind_refused_yes _ _ _ _ c.requires.ends c.requires.within c.in_ok-test.ensures.ok.read c.if-not-is_at.ensures.stands c.in_err-yes.ensures.out)

pub behind_cast-expect-requires-clause-within : goal.behind_cast-expect-requires-clause-within
behind_cast-expect-requires-clause-within t c = c.in_ok-yes.ensures.ok.read.read.within

pub behind_cast-expect-requires-clause-makes : goal.behind_cast-expect-requires-clause-makes
behind_cast-expect-requires-clause-makes t c = refl

pub behind_cast-returns-in_err-colon-clause-ok : goal.behind_cast-returns-in_err-colon-clause-ok
behind_cast-returns-in_err-colon-clause-ok t c = not_ok _ _ _ c.from_residual-in_err-colon.ensures.1

pub behind_cast-returns-in_err-colon-clause-out : goal.behind_cast-returns-in_err-colon-clause-out
behind_cast-returns-in_err-colon-clause-out t c = stopped _ _ _ c.from_residual-in_err-colon.ensures.1 (behind_refused_colon _ _ _ _ _ c.requires.ends c.requires.within c.in_ok-test.ensures.ok.read c.if-not-is_at.ensures.stands c.in_ok-yes.ensures.ok.read c.in_err-colon.ensures.out)

pub behind_cast-cond-requires : goal.behind_cast-cond-requires
behind_cast-cond-requires t c = (let d : 32 * (length c.args.self.now - c.args.first.next) + 16 ≡ t = c.decreases in let f0 = c.in_ok-test.ensures.ok.read.read.forth in let f1 = c.in_ok-yes.ensures.ok.forth in let f2 = c.in_ok-colon.ensures.next in let f3 = mark_more _ _ _ c.requires.ends c.in_ok-colon.ensures.ok refl in omega (arith, d, f0, f1, f2, f3), (c.requires.ends, (let m = mark_more _ _ _ c.requires.ends c.in_ok-colon.ensures.ok refl in let n = c.in_ok-colon.ensures.next in omega (arith, m, n))))

pub behind_cast-returns-in_err-no-clause-ok : goal.behind_cast-returns-in_err-no-clause-ok
behind_cast-returns-in_err-no-clause-ok t c = not_ok _ _ _ c.from_residual-in_err-no.ensures.1

pub behind_cast-returns-in_err-no-clause-out : goal.behind_cast-returns-in_err-no-clause-out
behind_cast-returns-in_err-no-clause-out t c = stopped _ _ _ c.from_residual-in_err-no.ensures.1 (chosen_out _ _ c.in_ok-test.test c.in_ok-yes.yes c.in_ok-colon.colon _ c.requires.ends c.requires.within c.in_ok-test.ensures.ok c.if-not-is_at.ensures.stands c.in_ok-yes.ensures.ok c.in_ok-colon.ensures.ok c.in_ok-colon.ensures.next c.in_err-no.ensures.out)

pub behind_cast-chosen-requires : goal.behind_cast-chosen-requires
behind_cast-chosen-requires t c = record { within = c.in_ok-test.ensures.ok.read.read.within }

pub behind_cast-returns-in_err-chosen-clause-ok : goal.behind_cast-returns-in_err-chosen-clause-ok
behind_cast-returns-in_err-chosen-clause-ok t c = not_ok _ _ _ c.from_residual-in_err-chosen.ensures.1

pub behind_cast-returns-in_err-chosen-clause-out : goal.behind_cast-returns-in_err-chosen-clause-out
behind_cast-returns-in_err-chosen-clause-out t c = stopped _ _ _ c.from_residual-in_err-chosen.ensures.1 (no_memory _ _ _)

pub behind_cast-returns-clause-ok : goal.behind_cast-returns-clause-ok
behind_cast-returns-clause-ok t c = chosen_taken _ _ c.in_ok-test.test c.in_ok-yes.yes c.in_ok-no.no _ c.in_ok-colon.colon c.requires.ends c.requires.within c.in_ok-test.ensures.ok c.if-not-is_at.ensures.stands c.in_ok-yes.ensures.ok c.in_ok-colon.ensures.ok c.in_ok-colon.ensures.next c.in_ok-no.ensures.ok c.in_ok-chosen.ensures.tree c.in_ok-chosen.ensures.next

pub row-loop-op-init : goal.row-loop-op-init
row-loop-op-init t c = row_begins _ _ _ c.requires.within c.of-row.ensures.first c.of-row.ensures.rest c.of-row.ensures.next

pub row-peek-requires : goal.row-peek-requires
row-peek-requires t c = c.loop-op.invariant.read.within

pub row-overflow_add-row : goal.row-overflow_add-row
row-overflow_add-row t c = let w = c.loop-op.invariant.read.within in omega (arith, c.peek.ensures.room, w)

pub row-cast-requires : goal.row-cast-requires
row-cast-requires t c = (let d : 32 * (length c.args.self.now - c.args.first.next) + 0 ≡ t = c.decreases in let f0 = c.loop-op.invariant.read.forth in let f1 = (row_next _ _ _ c.peek.result c.in-Some.op c.requires.ends c.loop-op.invariant.read c.peek.ensures.stands (sym c.binary.ensures ∙ c.in-Some.is)).within in omega (arith, d, f0, f1), (c.requires.ends, (row_next _ _ _ c.peek.result c.in-Some.op c.requires.ends c.loop-op.invariant.read c.peek.ensures.stands (sym c.binary.ensures ∙ c.in-Some.is)).within))

pub row-returns-in_err-operand-clause-ok : goal.row-returns-in_err-operand-clause-ok
row-returns-in_err-operand-clause-ok t c = not_ok _ _ _ c.from_residual.ensures.1

pub row-returns-in_err-operand-clause-out : goal.row-returns-in_err-operand-clause-out
row-returns-in_err-operand-clause-out t c = stopped _ _ _ c.from_residual.ensures.1 (row_refused_next _ _ _ c.peek.result c.in-Some.op _ c.requires.ends c.loop-op.invariant c.peek.ensures.stands (sym c.binary.ensures ∙ c.in-Some.is) c.in_err-operand.ensures.out)

pub row-joined-requires : goal.row-joined-requires
row-joined-requires t c = record { within = c.loop-op.invariant.read.within }

pub row-returns-in_err-row-clause-ok : goal.row-returns-in_err-row-clause-ok
row-returns-in_err-row-clause-ok t c = not_ok _ _ _ c.from_residual-in_err-row.ensures.1

pub row-returns-in_err-row-clause-out : goal.row-returns-in_err-row-clause-out
row-returns-in_err-row-clause-out t c = stopped _ _ _ c.from_residual-in_err-row.ensures.1 (no_memory _ _ _)

pub row-loop-op-smaller : goal.row-loop-op-smaller
row-loop-op-smaller t c = let w = c.loop-op.invariant.read.within in let f = c.in_ok-operand.ensures.ok.forth in let n = c.in_ok-row.ensures.next in omega (arith, w, f, n)

pub row-loop-op-preserved : goal.row-loop-op-preserved
row-loop-op-preserved t c = row_goes_on _ _ _ c.peek.result c.in-Some.op c.in_ok-operand.operand _ c.requires.ends c.loop-op.invariant c.peek.ensures.stands (sym c.binary.ensures ∙ c.in-Some.is) c.in_ok-operand.ensures.ok c.in_ok-row.ensures.first c.in_ok-row.ensures.rest c.in_ok-row.ensures.next

pub row-returns-in_err-whole-clause-ok : goal.row-returns-in_err-whole-clause-ok
row-returns-in_err-whole-clause-ok t c = not_ok _ _ _ c.from_residual-in_err-whole.ensures.1

pub row-returns-in_err-whole-clause-out : goal.row-returns-in_err-whole-clause-out
row-returns-in_err-whole-clause-out t c = stopped _ _ _ c.from_residual-in_err-whole.ensures.1 (no_memory _ _ _)

pub row-returns-clause-ok : goal.row-returns-clause-ok
row-returns-clause-ok t c = row_end _ _ _ c.peek.result _ c.loop-op.invariant c.peek.ensures.stands (sym c.binary.ensures ∙ c.in_default.is) c.in_ok-whole.ensures.tree c.in_ok-whole.ensures.next

pub cast-begins_type_in_brackets-requires-clause-ends : goal.cast-begins_type_in_brackets-requires-clause-ends
cast-begins_type_in_brackets-requires-clause-ends t c = c.requires.ends

pub cast-begins_type_in_brackets-requires-clause-within : goal.cast-begins_type_in_brackets-requires-clause-within
cast-begins_type_in_brackets-requires-clause-within t c = c.requires.within

pub cast-unary-requires : goal.cast-unary-requires
cast-unary-requires t c = (let d : 32 * (length c.args.self.now - c.args.at) + 14 ≡ t = c.decreases in omega (arith, d), (c.requires.ends, c.requires.within))

pub cast-returns-then-not-begins_type_in_brackets-clause-ok : goal.cast-returns-then-not-begins_type_in_brackets-clause-ok
cast-returns-then-not-begins_type_in_brackets-clause-ok t c = kept _ _ c.unary.result (λ x h. cast_untyped c.args.self.now c.args.at x c.if-not-begins_type_in_brackets.ensures.stands h) c.unary.ensures.ok

pub cast-returns-then-not-begins_type_in_brackets-clause-out : goal.cast-returns-then-not-begins_type_in_brackets-clause-out
cast-returns-then-not-begins_type_in_brackets-clause-out t c = failed _ _ c.unary.result (λ x h. cast_refused_unary c.args.self.now c.args.at x c.if-not-begins_type_in_brackets.ensures.stands h) c.unary.ensures.out

pub cast-overflow_add-at : goal.cast-overflow_add-at
cast-overflow_add-at t c = omega (arith, c.begins_type_in_brackets.ensures.room, c.requires.within)

pub cast-spec-requires : goal.cast-spec-requires
cast-spec-requires t c = (let d : 32 * (length c.args.self.now - c.args.at) + 14 ≡ t = c.decreases in let f0 = c.if-not-begins_type_in_brackets.ensures.stands.stands.stands.within in omega (arith, d, f0), (c.requires.ends, c.if-not-begins_type_in_brackets.ensures.stands.stands.stands.within))

pub cast-returns-in_err-words-clause-ok : goal.cast-returns-in_err-words-clause-ok
cast-returns-in_err-words-clause-ok t c = not_ok _ _ _ c.from_residual.ensures.1

pub cast-returns-in_err-words-clause-out : goal.cast-returns-in_err-words-clause-out
cast-returns-in_err-words-clause-out t c = stopped _ _ _ c.from_residual.ensures.1 (cast_out_words _ _ _ c.requires.ends c.if-not-begins_type_in_brackets.ensures.stands c.in_err-words.ensures.out)

pub cast-closed_type-requires-clause-ends : goal.cast-closed_type-requires-clause-ends
cast-closed_type-requires-clause-ends t c = c.requires.ends

pub cast-closed_type-requires-clause-within : goal.cast-closed_type-requires-clause-within
cast-closed_type-requires-clause-within t c = c.in_ok-words.ensures.ok.read.read.within

pub cast-returns-in_err-name-clause-ok : goal.cast-returns-in_err-name-clause-ok
cast-returns-in_err-name-clause-ok t c = not_ok _ _ _ c.from_residual-in_err-name.ensures.1

pub cast-returns-in_err-name-clause-out : goal.cast-returns-in_err-name-clause-out
cast-returns-in_err-name-clause-out t c = stopped _ _ _ c.from_residual-in_err-name.ensures.1 (cast_out_type _ _ c.in_ok-words.words _ c.requires.ends c.if-not-begins_type_in_brackets.ensures.stands c.in_ok-words.ensures.ok c.in_err-name.ensures.out)

pub cast-begins_literal-requires : goal.cast-begins_literal-requires
cast-begins_literal-requires t c = record { within = typed_within _ _ _ c.requires.ends (typed_at _ _ c.in_ok-words.words c.in_ok-name.name c.if-not-begins_type_in_brackets.ensures.stands c.in_ok-words.ensures.ok c.in_ok-name.ensures.ok) }

pub cast-overflow_add-name : goal.cast-overflow_add-name
cast-overflow_add-name t c = let w = typed_within _ _ _ c.requires.ends (typed_at _ _ c.in_ok-words.words c.in_ok-name.name c.if-not-begins_type_in_brackets.ensures.stands c.in_ok-words.ensures.ok c.in_ok-name.ensures.ok) in omega (arith, c.begins_type_in_brackets.ensures.room, w)

pub cast-operands-requires : goal.cast-operands-requires
cast-operands-requires t c = (let d : 32 * (length c.args.self.now - c.args.at) + 14 ≡ t = c.decreases in let f0 = typed_forth _ _ _ (typed_at _ _ c.in_ok-words.words c.in_ok-name.name c.if-not-begins_type_in_brackets.ensures.stands c.in_ok-words.ensures.ok c.in_ok-name.ensures.ok) in let f1 = mark_more _ _ _ c.requires.ends c.if-begins_literal.ensures.opens refl in omega (arith, d, f0, f1), (c.requires.ends, mark_more _ _ _ c.requires.ends c.if-begins_literal.ensures.opens refl))

pub cast-returns-in_err-operands-clause-ok : goal.cast-returns-in_err-operands-clause-ok
cast-returns-in_err-operands-clause-ok t c = not_ok _ _ _ c.from_residual-in_err-operands.ensures.1

pub cast-returns-in_err-operands-clause-out : goal.cast-returns-in_err-operands-clause-out
cast-returns-in_err-operands-clause-out t c = stopped _ _ _ c.from_residual-in_err-operands.ensures.1 (literal_out_operands _ _ _ _ c.requires.ends (typed_at _ _ c.in_ok-words.words c.in_ok-name.name c.if-not-begins_type_in_brackets.ensures.stands c.in_ok-words.ensures.ok c.in_ok-name.ensures.ok) c.if-begins_literal.ensures c.in_err-operands.ensures.out)

pub cast-literal-requires-clause-ends : goal.cast-literal-requires-clause-ends
cast-literal-requires-clause-ends t c = c.requires.ends

pub cast-literal-requires-clause-typed : goal.cast-literal-requires-clause-typed
cast-literal-requires-clause-typed t c = (typed_at _ _ c.in_ok-words.words c.in_ok-name.name c.if-not-begins_type_in_brackets.ensures.stands c.in_ok-words.ensures.ok c.in_ok-name.ensures.ok)

pub cast-literal-requires-clause-begins : goal.cast-literal-requires-clause-begins
cast-literal-requires-clause-begins t c = c.if-begins_literal.ensures

pub cast-literal-requires-clause-operands : goal.cast-literal-requires-clause-operands
cast-literal-requires-clause-operands t c = c.in_ok-operands.ensures.ok

pub cast-returns-then-begins_literal-clause-ok : goal.cast-returns-then-begins_literal-clause-ok
cast-returns-then-begins_literal-clause-ok t c = c.literal.ensures.ok

pub cast-returns-then-begins_literal-clause-out : goal.cast-returns-then-begins_literal-clause-out
cast-returns-then-begins_literal-clause-out t c = c.literal.ensures.out

pub cast-cast-requires : goal.cast-cast-requires
cast-cast-requires t c = (let d : 32 * (length c.args.self.now - c.args.at) + 14 ≡ t = c.decreases in let f0 = typed_forth _ _ _ (typed_at _ _ c.in_ok-words.words c.in_ok-name.name c.if-not-begins_type_in_brackets.ensures.stands c.in_ok-words.ensures.ok c.in_ok-name.ensures.ok) in let f1 = typed_within _ _ _ c.requires.ends (typed_at _ _ c.in_ok-words.words c.in_ok-name.name c.if-not-begins_type_in_brackets.ensures.stands c.in_ok-words.ensures.ok c.in_ok-name.ensures.ok) in omega (arith, d, f0, f1), (c.requires.ends, typed_within _ _ _ c.requires.ends (typed_at _ _ c.in_ok-words.words c.in_ok-name.name c.if-not-begins_type_in_brackets.ensures.stands c.in_ok-words.ensures.ok c.in_ok-name.ensures.ok)))

pub cast-returns-in_err-operand-clause-ok : goal.cast-returns-in_err-operand-clause-ok
cast-returns-in_err-operand-clause-ok t c = not_ok _ _ _ c.from_residual-in_err-operand.ensures.1

pub cast-returns-in_err-operand-clause-out : goal.cast-returns-in_err-operand-clause-out
cast-returns-in_err-operand-clause-out t c = stopped _ _ _ c.from_residual-in_err-operand.ensures.1 (cast_out_operand _ _ _ _ c.requires.ends (typed_at _ _ c.in_ok-words.words c.in_ok-name.name c.if-not-begins_type_in_brackets.ensures.stands c.in_ok-words.ensures.ok c.in_ok-name.ensures.ok) c.if-begins_literal.ensures c.in_err-operand.ensures.out)

pub cast-casted-requires-clause-ends : goal.cast-casted-requires-clause-ends
cast-casted-requires-clause-ends t c = c.requires.ends

pub cast-casted-requires-clause-typed : goal.cast-casted-requires-clause-typed
cast-casted-requires-clause-typed t c = (typed_at _ _ c.in_ok-words.words c.in_ok-name.name c.if-not-begins_type_in_brackets.ensures.stands c.in_ok-words.ensures.ok c.in_ok-name.ensures.ok)

pub cast-casted-requires-clause-other : goal.cast-casted-requires-clause-other
cast-casted-requires-clause-other t c = c.if-begins_literal.ensures

pub cast-casted-requires-clause-operand : goal.cast-casted-requires-clause-operand
cast-casted-requires-clause-operand t c = c.in_ok-operand.ensures.ok

pub cast-returns-in_err-casted-clause-ok : goal.cast-returns-in_err-casted-clause-ok
cast-returns-in_err-casted-clause-ok t c = not_ok _ _ _ c.from_residual-in_err-casted.ensures.1

pub cast-returns-in_err-casted-clause-out : goal.cast-returns-in_err-casted-clause-out
cast-returns-in_err-casted-clause-out t c = stopped _ _ _ c.from_residual-in_err-casted.ensures.1 (no_memory _ _ _)

pub cast-returns-clause-ok : goal.cast-returns-clause-ok
cast-returns-clause-ok t c = c.in_ok-casted.ensures

pub unary-peek-terminal-requires : goal.unary-peek-terminal-requires
unary-peek-terminal-requires t c = c.requires.within

pub unary-overflow_add-at : goal.unary-overflow_add-at
unary-overflow_add-at t c = omega (arith, c.peek-terminal.ensures.room, c.requires.within)

pub unary-unary-requires : goal.unary-unary-requires
unary-unary-requires t c = (let d : 32 * (length c.args.self.now - c.args.at) + 12 ≡ t = c.decreases in let f0 = incremented_more _ _ c.peek-terminal.result c.in-Some.op c.requires.ends c.peek-terminal.ensures.stands (sym c.increment_before.ensures ∙ c.in-Some.is) in omega (arith, d, f0), (c.requires.ends, incremented_more _ _ c.peek-terminal.result c.in-Some.op c.requires.ends c.peek-terminal.ensures.stands (sym c.increment_before.ensures ∙ c.in-Some.is)))

pub unary-returns-in_err-operand-clause-ok : goal.unary-returns-in_err-operand-clause-ok
unary-returns-in_err-operand-clause-ok t c = not_ok _ _ _ c.from_residual.ensures.1

pub unary-returns-in_err-operand-clause-out : goal.unary-returns-in_err-operand-clause-out
unary-returns-in_err-operand-clause-out t c = stopped _ _ _ c.from_residual.ensures.1 (incremented_out _ _ c.peek-terminal.result c.in-Some.op _ c.requires.ends c.peek-terminal.ensures.stands (sym c.increment_before.ensures ∙ c.in-Some.is) c.in_err-operand.ensures.out)

pub unary-prefixed-requires : goal.unary-prefixed-requires
unary-prefixed-requires t c = record { within = c.requires.within }

pub unary-returns-in-Some-clause-ok : goal.unary-returns-in-Some-clause-ok
unary-returns-in-Some-clause-ok t c = kept_two _ _ _ c.prefixed.result (λ x a b. incremented_taken c.args.self.now c.args.at c.peek-terminal.result c.in-Some.op c.in_ok-operand.operand x c.requires.ends c.peek-terminal.ensures.stands (sym c.increment_before.ensures ∙ c.in-Some.is) c.in_ok-operand.ensures.ok a b) c.prefixed.ensures.tree c.prefixed.ensures.next

pub unary-returns-in-Some-clause-out : goal.unary-returns-in-Some-clause-out
unary-returns-in-Some-clause-out t c = failed _ _ c.prefixed.result (λ x h. no_memory_out _ _ _ x h) c.prefixed.ensures.memory

pub unary-overflow_add-at-in-Some-prefix : goal.unary-overflow_add-at-in-Some-prefix
unary-overflow_add-at-in-Some-prefix t c = omega (arith, c.peek-terminal.ensures.room, c.requires.within)

pub unary-cast-requires : goal.unary-cast-requires
unary-cast-requires t c = (let d : 32 * (length c.args.self.now - c.args.at) + 12 ≡ t = c.decreases in let f0 = prefixed_more _ _ c.peek-terminal.result c.in-Some-prefix.op c.requires.ends c.peek-terminal.ensures.stands (sym c.prefix.ensures ∙ c.in-Some-prefix.is) in omega (arith, d, f0), (c.requires.ends, prefixed_more _ _ c.peek-terminal.result c.in-Some-prefix.op c.requires.ends c.peek-terminal.ensures.stands (sym c.prefix.ensures ∙ c.in-Some-prefix.is)))

pub unary-returns-in_err-operand-2-clause-ok : goal.unary-returns-in_err-operand-2-clause-ok
unary-returns-in_err-operand-2-clause-ok t c = not_ok _ _ _ c.from_residual-in_err-operand-2.ensures.1

pub unary-returns-in_err-operand-2-clause-out : goal.unary-returns-in_err-operand-2-clause-out
unary-returns-in_err-operand-2-clause-out t c = stopped _ _ _ c.from_residual-in_err-operand-2.ensures.1 (prefixed_out _ _ c.peek-terminal.result c.in-Some-prefix.op _ c.requires.ends c.peek-terminal.ensures.stands (sym c.prefix.ensures ∙ c.in-Some-prefix.is) c.in_err-operand-2.ensures.out)

pub unary-prefixed-requires-in-Some-prefix : goal.unary-prefixed-requires-in-Some-prefix
unary-prefixed-requires-in-Some-prefix t c = record { within = c.requires.within }

pub unary-returns-in-Some-prefix-clause-ok : goal.unary-returns-in-Some-prefix-clause-ok
unary-returns-in-Some-prefix-clause-ok t c = kept_two _ _ _ c.prefixed-in-Some-prefix.result (λ x a b. prefixed_taken c.args.self.now c.args.at c.peek-terminal.result c.in-Some-prefix.op c.in_ok-operand-2.operand x c.requires.ends c.peek-terminal.ensures.stands (sym c.prefix.ensures ∙ c.in-Some-prefix.is) c.in_ok-operand-2.ensures.ok a b) c.prefixed-in-Some-prefix.ensures.tree c.prefixed-in-Some-prefix.ensures.next

pub unary-returns-in-Some-prefix-clause-out : goal.unary-returns-in-Some-prefix-clause-out
unary-returns-in-Some-prefix-clause-out t c = failed _ _ c.prefixed-in-Some-prefix.result (λ x h. no_memory_out _ _ _ x h) c.prefixed-in-Some-prefix.ensures.memory

pub unary-is_at-requires : goal.unary-is_at-requires
unary-is_at-requires t c = c.requires.within

pub unary-postfix-requires : goal.unary-postfix-requires
unary-postfix-requires t c = (let d : 32 * (length c.args.self.now - c.args.at) + 12 ≡ t = c.decreases in omega (arith, d), (c.requires.ends, c.requires.within))

pub unary-returns-then-not-is_at-clause-ok : goal.unary-returns-then-not-is_at-clause-ok
unary-returns-then-not-is_at-clause-ok t c = kept _ _ c.postfix.result (λ x h. postfix_taken c.args.self.now c.args.at c.peek-terminal.result x c.peek-terminal.ensures.stands (sym c.increment_before.ensures ∙ c.in_default.is) (sym c.prefix.ensures ∙ c.in_default-prefix.is) c.if-not-is_at.ensures.stands h) c.postfix.ensures.ok

pub unary-returns-then-not-is_at-clause-out : goal.unary-returns-then-not-is_at-clause-out
unary-returns-then-not-is_at-clause-out t c = failed _ _ c.postfix.result (λ x h. unary_refused_postfix c.args.self.now c.args.at c.peek-terminal.result x c.peek-terminal.ensures.stands (sym c.increment_before.ensures ∙ c.in_default.is) (sym c.prefix.ensures ∙ c.in_default-prefix.is) c.if-not-is_at.ensures.stands h) c.postfix.ensures.out

pub unary-overflow_add-at-2 : goal.unary-overflow_add-at-2
unary-overflow_add-at-2 t c = omega (arith, c.peek-terminal.ensures.room, c.requires.within)

pub unary-begins_type_in_brackets-requires-clause-ends : goal.unary-begins_type_in_brackets-requires-clause-ends
unary-begins_type_in_brackets-requires-clause-ends t c = c.requires.ends

pub unary-begins_type_in_brackets-requires-clause-within : goal.unary-begins_type_in_brackets-requires-clause-within
unary-begins_type_in_brackets-requires-clause-within t c = mark_more _ _ _ c.requires.ends c.if-not-is_at.ensures.stands refl

pub unary-overflow_add-at-then-begins_type_in_brackets : goal.unary-overflow_add-at-then-begins_type_in_brackets
unary-overflow_add-at-then-begins_type_in_brackets t c = omega (arith, c.peek-terminal.ensures.room, c.requires.within)

pub unary-spec-requires : goal.unary-spec-requires
unary-spec-requires t c = (let d : 32 * (length c.args.self.now - c.args.at) + 12 ≡ t = c.decreases in let f0 = typed_more _ _ c.requires.ends c.if-begins_type_in_brackets.ensures.stands in omega (arith, d, f0), (c.requires.ends, typed_more _ _ c.requires.ends c.if-begins_type_in_brackets.ensures.stands))

pub unary-returns-in_err-words-clause-ok : goal.unary-returns-in_err-words-clause-ok
unary-returns-in_err-words-clause-ok t c = not_ok _ _ _ c.from_residual-in_err-words.ensures.1

pub unary-returns-in_err-words-clause-out : goal.unary-returns-in_err-words-clause-out
unary-returns-in_err-words-clause-out t c = stopped _ _ _ c.from_residual-in_err-words.ensures.1 (sized_out_words _ _ _ c.requires.ends c.if-not-is_at.ensures.stands c.if-begins_type_in_brackets.ensures.stands c.in_err-words.ensures.out)

pub unary-sized-requires-clause-ends : goal.unary-sized-requires-clause-ends
unary-sized-requires-clause-ends t c = c.requires.ends

pub unary-sized-requires-clause-stands : goal.unary-sized-requires-clause-stands
unary-sized-requires-clause-stands t c = c.if-not-is_at.ensures.stands

pub unary-sized-requires-clause-typed : goal.unary-sized-requires-clause-typed
unary-sized-requires-clause-typed t c = c.if-begins_type_in_brackets.ensures.stands

pub unary-sized-requires-clause-words : goal.unary-sized-requires-clause-words
unary-sized-requires-clause-words t c = c.in_ok-words.ensures.ok

pub unary-returns-then-begins_type_in_brackets-clause-ok : goal.unary-returns-then-begins_type_in_brackets-clause-ok
unary-returns-then-begins_type_in_brackets-clause-ok t c = c.sized.ensures.ok

pub unary-returns-then-begins_type_in_brackets-clause-out : goal.unary-returns-then-begins_type_in_brackets-clause-out
unary-returns-then-begins_type_in_brackets-clause-out t c = c.sized.ensures.out

pub unary-overflow_add-at-3 : goal.unary-overflow_add-at-3
unary-overflow_add-at-3 t c = omega (arith, c.peek-terminal.ensures.room, c.requires.within)

pub unary-unary-requires-2 : goal.unary-unary-requires-2
unary-unary-requires-2 t c = (let d : 32 * (length c.args.self.now - c.args.at) + 12 ≡ t = c.decreases in let f0 = mark_more _ _ _ c.requires.ends c.if-not-is_at.ensures.stands refl in omega (arith, d, f0), (c.requires.ends, mark_more _ _ _ c.requires.ends c.if-not-is_at.ensures.stands refl))

pub unary-returns-in_err-operand-3-clause-ok : goal.unary-returns-in_err-operand-3-clause-ok
unary-returns-in_err-operand-3-clause-ok t c = not_ok _ _ _ c.from_residual-in_err-operand-3.ensures.1

pub unary-returns-in_err-operand-3-clause-out : goal.unary-returns-in_err-operand-3-clause-out
unary-returns-in_err-operand-3-clause-out t c = stopped _ _ _ c.from_residual-in_err-operand-3.ensures.1 (sized_refused_unary _ _ _ c.requires.ends c.if-not-is_at.ensures.stands c.if-begins_type_in_brackets.ensures.stands c.in_err-operand-3.ensures.out)

pub unary-prefixed-requires-2 : goal.unary-prefixed-requires-2
unary-prefixed-requires-2 t c = record { within = c.requires.within }

pub unary-returns-clause-ok : goal.unary-returns-clause-ok
unary-returns-clause-ok t c = kept_two _ _ _ c.prefixed-2.result (λ x a b. sized_taken c.args.self.now c.args.at c.in_ok-operand-3.operand x c.requires.ends c.if-not-is_at.ensures.stands c.if-begins_type_in_brackets.ensures.stands c.in_ok-operand-3.ensures.ok a b) c.prefixed-2.ensures.tree c.prefixed-2.ensures.next

pub unary-returns-clause-out : goal.unary-returns-clause-out
unary-returns-clause-out t c = failed _ _ c.prefixed-2.result (λ x h. no_memory_out _ _ _ x h) c.prefixed-2.ensures.memory

pub postfix-primary-requires : goal.postfix-primary-requires
postfix-primary-requires t c = (let d : 32 * (length c.args.self.now - c.args.at) + 10 ≡ t = c.decreases in omega (arith, d), (c.requires.ends, c.requires.within))

pub postfix-returns-in_err-operand-clause-ok : goal.postfix-returns-in_err-operand-clause-ok
postfix-returns-in_err-operand-clause-ok t c = not_ok _ _ _ c.from_residual.ensures.1

pub postfix-returns-in_err-operand-clause-out : goal.postfix-returns-in_err-operand-clause-out
postfix-returns-in_err-operand-clause-out t c = stopped _ _ _ c.from_residual.ensures.1 (postfix_refused_primary _ _ _ c.requires.within c.in_err-operand.ensures.out)

pub postfix-loop-alloc-init : goal.postfix-loop-alloc-init
postfix-loop-alloc-init t c = suffixes_begin _ _ _ c.requires.within c.in_ok-operand.ensures.ok

pub postfix-begins_suffix-requires : goal.postfix-begins_suffix-requires
postfix-begins_suffix-requires t c = record { within = c.loop-alloc.invariant.read.within }

pub postfix-is_at-requires : goal.postfix-is_at-requires
postfix-is_at-requires t c = c.loop-alloc.invariant.read.within

pub postfix-overflow_add-operand : goal.postfix-overflow_add-operand
postfix-overflow_add-operand t c = let w = c.loop-alloc.invariant.read.within in omega (arith, c.is_at.ensures.room, w)

pub postfix-operands-requires : goal.postfix-operands-requires
postfix-operands-requires t c = (let d : 32 * (length c.args.self.now - c.args.at) + 10 ≡ t = c.decreases in let f0 = c.loop-alloc.invariant.forth in let f1 = mark_more _ _ _ c.requires.ends c.if-is_at.ensures.stands refl in omega (arith, d, f0, f1), (c.requires.ends, mark_more _ _ _ c.requires.ends c.if-is_at.ensures.stands refl))

pub postfix-returns-in_err-operands-clause-ok : goal.postfix-returns-in_err-operands-clause-ok
postfix-returns-in_err-operands-clause-ok t c = not_ok _ _ _ c.from_residual-in_err-operands.ensures.1

pub postfix-returns-in_err-operands-clause-out : goal.postfix-returns-in_err-operands-clause-out
postfix-returns-in_err-operands-clause-out t c = stopped _ _ _ c.from_residual-in_err-operands.ensures.1 (suffixes_refused_index _ _ _ _ c.requires.ends c.loop-alloc.invariant c.if-is_at.ensures.stands c.in_err-operands.ensures.out)

pub postfix-element-requires-clause-within : goal.postfix-element-requires-clause-within
postfix-element-requires-clause-within t c = c.loop-alloc.invariant.read.within

pub postfix-element-requires-clause-comma : goal.postfix-element-requires-clause-comma
postfix-element-requires-clause-comma t c = comma_within _ _ _ c.in_ok-operands.ensures.ok

pub postfix-element-requires-clause-closes : goal.postfix-element-requires-clause-closes
postfix-element-requires-clause-closes t c = c.in_ok-operands.ensures.ok.read.read.within

pub postfix-returns-in_err-operand-2-clause-ok : goal.postfix-returns-in_err-operand-2-clause-ok
postfix-returns-in_err-operand-2-clause-ok t c = not_ok _ _ _ c.from_residual-in_err-operand-2.ensures.1

pub postfix-returns-in_err-operand-2-clause-out : goal.postfix-returns-in_err-operand-2-clause-out
postfix-returns-in_err-operand-2-clause-out t c = stopped _ _ _ c.from_residual-in_err-operand-2.ensures.1 (suffixes_refused_bracket _ _ _ c.in_ok-operands.operands _ c.requires.ends c.loop-alloc.invariant c.if-is_at.ensures.stands c.in_ok-operands.ensures.ok c.in_err-operand-2.ensures.out)

pub postfix-loop-alloc-smaller-then-is_at : goal.postfix-loop-alloc-smaller-then-is_at
postfix-loop-alloc-smaller-then-is_at t c = let w = c.loop-alloc.invariant.read.within in let f = c.in_ok-operands.ensures.ok.forth in let n = c.in_ok-operand-2.ensures.ok.behind in omega (arith, w, f, n)

pub postfix-loop-alloc-preserved-then-is_at : goal.postfix-loop-alloc-preserved-then-is_at
postfix-loop-alloc-preserved-then-is_at t c = suffixes_index _ _ _ c.in_ok-operands.operands _ c.requires.ends c.loop-alloc.invariant c.if-is_at.ensures.stands c.in_ok-operands.ensures.ok c.in_ok-operand-2.ensures.ok

pub postfix-suffixed-requires-clause-ends : goal.postfix-suffixed-requires-clause-ends
postfix-suffixed-requires-clause-ends t c = c.requires.ends

pub postfix-suffixed-requires-clause-within : goal.postfix-suffixed-requires-clause-within
postfix-suffixed-requires-clause-within t c = c.loop-alloc.invariant.read.within

pub postfix-suffixed-requires-clause-suffix : goal.postfix-suffixed-requires-clause-suffix
postfix-suffixed-requires-clause-suffix t c = c.loop-alloc-test.ensures

pub postfix-suffixed-requires-clause-other : goal.postfix-suffixed-requires-clause-other
postfix-suffixed-requires-clause-other t c = c.if-is_at.ensures.stands

pub postfix-returns-in_err-operand-3-clause-ok : goal.postfix-returns-in_err-operand-3-clause-ok
postfix-returns-in_err-operand-3-clause-ok t c = not_ok _ _ _ c.from_residual-in_err-operand-3.ensures.1

pub postfix-returns-in_err-operand-3-clause-out : goal.postfix-returns-in_err-operand-3-clause-out
postfix-returns-in_err-operand-3-clause-out t c = stopped _ _ _ c.from_residual-in_err-operand-3.ensures.1 (suffixes_refused _ _ _ _ c.loop-alloc.invariant c.in_err-operand-3.ensures.out)

pub postfix-loop-alloc-smaller : goal.postfix-loop-alloc-smaller
postfix-loop-alloc-smaller t c = let w = c.loop-alloc.invariant.read.within in let f = c.in_ok-operand-3.ensures.forth in omega (arith, w, f)

pub postfix-loop-alloc-preserved : goal.postfix-loop-alloc-preserved
postfix-loop-alloc-preserved t c = suffixes_go_on _ _ _ _ c.loop-alloc.invariant c.in_ok-operand-3.ensures.forth c.in_ok-operand-3.ensures.read c.in_ok-operand-3.ensures.tree

pub postfix-returns-clause-ok : goal.postfix-returns-clause-ok
postfix-returns-clause-ok t c = suffixes_end _ _ _ c.loop-alloc.invariant c.loop-alloc-test.ensures

pub primary-is_at-requires : goal.primary-is_at-requires
primary-is_at-requires t c = c.requires.within

pub primary-overflow_add-at : goal.primary-overflow_add-at
primary-overflow_add-at t c = omega (arith, c.is_at.ensures.room, c.requires.within)

pub primary-operands-requires : goal.primary-operands-requires
primary-operands-requires t c = (let d : 32 * (length c.args.self.now - c.args.at) + 8 ≡ t = c.decreases in let f0 = mark_more _ _ _ c.requires.ends c.if-is_at.ensures.stands refl in omega (arith, d, f0), (c.requires.ends, mark_more _ _ _ c.requires.ends c.if-is_at.ensures.stands refl))

pub primary-returns-in_err-operands-clause-ok : goal.primary-returns-in_err-operands-clause-ok
primary-returns-in_err-operands-clause-ok t c = not_ok _ _ _ c.from_residual.ensures.1

pub primary-returns-in_err-operands-clause-out : goal.primary-returns-in_err-operands-clause-out
primary-returns-in_err-operands-clause-out t c = stopped _ _ _ c.from_residual.ensures.1 (primary_refused_inner _ _ _ c.requires.ends c.if-is_at.ensures.stands c.in_err-operands.ensures.out)

pub primary-closed-requires-clause-comma : goal.primary-closed-requires-clause-comma
primary-closed-requires-clause-comma t c = comma_within _ _ _ c.in_ok-operands.ensures.ok

pub primary-closed-requires-clause-within : goal.primary-closed-requires-clause-within
primary-closed-requires-clause-within t c = c.in_ok-operands.ensures.ok.read.read.within

pub primary-closed-requires-clause-makes : goal.primary-closed-requires-clause-makes
primary-closed-requires-clause-makes t c = refl

pub primary-returns-then-is_at-clause-ok : goal.primary-returns-then-is_at-clause-ok
primary-returns-then-is_at-clause-ok t c = kept_three _ _ _ _ c.closed.result (λ x a b d. brackets_taken c.args.self.now c.args.at c.in_ok-operands.operands x c.requires.ends c.if-is_at.ensures.stands c.in_ok-operands.ensures.ok a b d) c.closed.ensures.tree c.closed.ensures.closes c.closed.ensures.next

pub primary-returns-then-is_at-clause-out : goal.primary-returns-then-is_at-clause-out
primary-returns-then-is_at-clause-out t c = failed _ _ c.closed.result (λ x h. primary_refused_close c.args.self.now c.args.at c.in_ok-operands.operands.next x c.requires.ends c.if-is_at.ensures.stands c.in_ok-operands.ensures.ok.read h) c.closed.ensures.out

pub primary-begins_arguments-requires-clause-ends : goal.primary-begins_arguments-requires-clause-ends
primary-begins_arguments-requires-clause-ends t c = c.requires.ends

pub primary-begins_arguments-requires-clause-within : goal.primary-begins_arguments-requires-clause-within
primary-begins_arguments-requires-clause-within t c = c.requires.within

pub primary-leaf-requires-clause-ends : goal.primary-leaf-requires-clause-ends
primary-leaf-requires-clause-ends t c = c.requires.ends

pub primary-leaf-requires-clause-within : goal.primary-leaf-requires-clause-within
primary-leaf-requires-clause-within t c = c.requires.within

pub primary-leaf-requires-clause-other : goal.primary-leaf-requires-clause-other
primary-leaf-requires-clause-other t c = c.if-is_at.ensures.stands

pub primary-leaf-requires-clause-call : goal.primary-leaf-requires-clause-call
primary-leaf-requires-clause-call t c = c.if-not-begins_arguments.ensures

pub primary-returns-then-not-begins_arguments-clause-ok : goal.primary-returns-then-not-begins_arguments-clause-ok
primary-returns-then-not-begins_arguments-clause-ok t c = kept_three _ _ _ _ c.leaf.result (λ x a b d. record { read = a; forth = b; tree = d }) c.leaf.ensures.read c.leaf.ensures.forth c.leaf.ensures.tree

pub primary-returns-then-not-begins_arguments-clause-out : goal.primary-returns-then-not-begins_arguments-clause-out
primary-returns-then-not-begins_arguments-clause-out t c = c.leaf.ensures.out

pub primary-overflow_add-at-2 : goal.primary-overflow_add-at-2
primary-overflow_add-at-2 t c = omega (arith, c.is_at.ensures.room, c.requires.within)

pub primary-operands-requires-2 : goal.primary-operands-requires-2
primary-operands-requires-2 t c = (let d : 32 * (length c.args.self.now - c.args.at) + 8 ≡ t = c.decreases in let f0 = call_more _ _ c.if-not-begins_arguments.ensures in omega (arith, d, f0), (c.requires.ends, call_more _ _ c.if-not-begins_arguments.ensures))

pub primary-returns-in_err-operands-2-clause-ok : goal.primary-returns-in_err-operands-2-clause-ok
primary-returns-in_err-operands-2-clause-ok t c = not_ok _ _ _ c.from_residual-in_err-operands-2.ensures.1

pub primary-returns-in_err-operands-2-clause-out : goal.primary-returns-in_err-operands-2-clause-out
primary-returns-in_err-operands-2-clause-out t c = stopped _ _ _ c.from_residual-in_err-operands-2.ensures.1 (primary_refused_arguments _ _ _ c.requires.ends c.if-not-begins_arguments.ensures c.in_err-operands-2.ensures.out)

pub primary-called-requires-clause-ends : goal.primary-called-requires-clause-ends
primary-called-requires-clause-ends t c = c.requires.ends

pub primary-called-requires-clause-call : goal.primary-called-requires-clause-call
primary-called-requires-clause-call t c = c.if-not-begins_arguments.ensures

pub primary-called-requires-clause-operands : goal.primary-called-requires-clause-operands
primary-called-requires-clause-operands t c = c.in_ok-operands-2.ensures.ok

pub primary-returns-clause-ok : goal.primary-returns-clause-ok
primary-returns-clause-ok t c = c.called.ensures.ok

pub primary-returns-clause-out : goal.primary-returns-clause-out
primary-returns-clause-out t c = c.called.ensures.out

pub any_base-begins_struct-requires-clause-ends : goal.any_base-begins_struct-requires-clause-ends
any_base-begins_struct-requires-clause-ends t c = c.requires.ends

pub any_base-begins_struct-requires-clause-within : goal.any_base-begins_struct-requires-clause-within
any_base-begins_struct-requires-clause-within t c = c.requires.within

pub any_base-base-requires-clause-ends : goal.any_base-base-requires-clause-ends
any_base-base-requires-clause-ends t c = c.requires.ends

pub any_base-base-requires-clause-within : goal.any_base-base-requires-clause-within
any_base-base-requires-clause-within t c = c.requires.within

pub any_base-base-requires-clause-other : goal.any_base-base-requires-clause-other
any_base-base-requires-clause-other t c = c.if-not-begins_struct.ensures.stands

pub any_base-returns-then-not-begins_struct-clause-ok : goal.any_base-returns-then-not-begins_struct-clause-ok
any_base-returns-then-not-begins_struct-clause-ok t c = base_ok _ _ _ c.base.ensures.read c.base.ensures.forth c.base.ensures.tree c.base.ensures.none

pub any_base-returns-then-not-begins_struct-clause-out : goal.any_base-returns-then-not-begins_struct-clause-out
any_base-returns-then-not-begins_struct-clause-out t c = base_out _ _ _ c.base.ensures.barred c.base.ensures.out

pub any_base-tag-requires-clause-ends : goal.any_base-tag-requires-clause-ends
any_base-tag-requires-clause-ends t c = c.requires.ends

pub any_base-tag-requires-clause-within : goal.any_base-tag-requires-clause-within
any_base-tag-requires-clause-within t c = c.requires.within

pub any_base-tag-requires-clause-begins : goal.any_base-tag-requires-clause-begins
any_base-tag-requires-clause-begins t c = c.if-not-begins_struct.ensures.stands

pub any_base-returns-in_err-tag-clause-ok : goal.any_base-returns-in_err-tag-clause-ok
any_base-returns-in_err-tag-clause-ok t c = not_ok _ _ _ c.from_residual.ensures.1

pub any_base-returns-in_err-tag-clause-out : goal.any_base-returns-in_err-tag-clause-out
any_base-returns-in_err-tag-clause-out t c = stopped _ _ _ c.from_residual.ensures.1 (no_type_memory sym.Base _ _)

pub any_base-overflow_add-tag : goal.any_base-overflow_add-tag
any_base-overflow_add-tag t c = let w = tag_within _ _ _ c.requires.ends c.in_ok-tag.ensures in omega (arith, w, c.begins_struct.ensures.room)

pub any_base-loop-members-init : goal.any_base-loop-members-init
any_base-loop-members-init t c = members_begin _ _ _ _ c.requires.ends c.in_ok-tag.ensures c.of-members.ensures.fields c.of-members.ensures.room c.of-members.ensures.next

pub any_base-spec-requires : goal.any_base-spec-requires
any_base-spec-requires t c = (let d : 32 * (length c.args.self.now - c.args.at) + 10 ≡ t = c.decreases in let a = members_forth _ _ _ _ c.loop-members.invariant in let w = members_within _ _ _ _ c.loop-members.invariant in omega (arith, a, w, d), (c.requires.ends, members_within _ _ _ _ c.loop-members.invariant))

pub any_base-returns-in_err-words-clause-ok : goal.any_base-returns-in_err-words-clause-ok
any_base-returns-in_err-words-clause-ok t c = not_ok _ _ _ c.from_residual-in_err-words.ensures.1

pub any_base-returns-in_err-words-clause-out : goal.any_base-returns-in_err-words-clause-out
any_base-returns-in_err-words-clause-out t c = stopped _ _ _ c.from_residual-in_err-words.ensures.1 (words_out _ _ _ _ _ _ c.in_ok-tag.ensures c.loop-members.invariant c.in_err-words.ensures.out)

pub any_base-names-requires : goal.any_base-names-requires
any_base-names-requires t c = (let d : 32 * (length c.args.self.now - c.args.at) + 10 ≡ t = c.decreases in let a = members_forth _ _ _ _ c.loop-members.invariant in let f = c.in_ok-words.ensures.ok.forth in let w = c.in_ok-words.ensures.ok.read.read.within in omega (arith, a, f, w, d), (c.requires.ends, (c.in_ok-words.ensures.ok.read.read.within, members_room _ _ _ _ c.loop-members.invariant)))

pub any_base-returns-in_err-names-clause-ok : goal.any_base-returns-in_err-names-clause-ok
any_base-returns-in_err-names-clause-ok t c = not_ok _ _ _ c.from_residual-in_err-names.ensures.1

pub any_base-returns-in_err-names-clause-out : goal.any_base-returns-in_err-names-clause-out
any_base-returns-in_err-names-clause-out t c = stopped _ _ _ c.from_residual-in_err-names.ensures.1 (names_out _ _ _ _ _ _ _ c.in_ok-tag.ensures c.loop-members.invariant c.in_ok-words.ensures.ok c.in_err-names.ensures.out)

pub any_base-with-requires : goal.any_base-with-requires
any_base-with-requires t c = record { few = c.in_ok-names.ensures.ok.few }

pub any_base-returns-in_err-members-clause-ok : goal.any_base-returns-in_err-members-clause-ok
any_base-returns-in_err-members-clause-ok t c = not_ok _ _ _ c.from_residual-in_err-members.ensures.1

pub any_base-returns-in_err-members-clause-out : goal.any_base-returns-in_err-members-clause-out
any_base-returns-in_err-members-clause-out t c = stopped _ _ _ c.from_residual-in_err-members.ensures.1 (no_type_memory sym.Base _ _)

pub any_base-goes_on-requires : goal.any_base-goes_on-requires
any_base-goes_on-requires t c = record { within = (member_behind _ _ _ _ c.in_ok-members.members _ _ c.loop-members.invariant c.in_ok-words.ensures.ok c.in_ok-names.ensures.ok c.in_ok-members.ensures.fields c.in_ok-members.ensures.room c.in_ok-members.ensures.next).goes_on.within }

pub any_base-loop-members-smaller : goal.any_base-loop-members-smaller
any_base-loop-members-smaller t c = let a = c.in_ok-words.ensures.ok.forth in let b = c.in_ok-names.ensures.ok.forth in let e = c.in_ok-names.ensures.ok.behind in let n = c.in_ok-members.ensures.next in let w = members_within _ _ _ _ c.loop-members.invariant in omega (arith, a, b, e, n, w)

pub any_base-loop-members-preserved : goal.any_base-loop-members-preserved
any_base-loop-members-preserved t c = members_go_on _ _ _ _ (member_behind _ _ _ _ c.in_ok-members.members _ _ c.loop-members.invariant c.in_ok-words.ensures.ok c.in_ok-names.ensures.ok c.in_ok-members.ensures.fields c.in_ok-members.ensures.room c.in_ok-members.ensures.next) c.if-not-goes_on.ensures

pub any_base-declared-requires : goal.any_base-declared-requires
any_base-declared-requires t c = record { within = (member_behind _ _ _ _ c.in_ok-members.members _ _ c.loop-members.invariant c.in_ok-words.ensures.ok c.in_ok-names.ensures.ok c.in_ok-members.ensures.fields c.in_ok-members.ensures.room c.in_ok-members.ensures.next).goes_on.within }

pub any_base-returns-clause-ok : goal.any_base-returns-clause-ok
any_base-returns-clause-ok t c = struct_ok _ _ _ _ _ c.requires.ends c.in_ok-tag.ensures (member_behind _ _ _ _ c.in_ok-members.members _ _ c.loop-members.invariant c.in_ok-words.ensures.ok c.in_ok-names.ensures.ok c.in_ok-members.ensures.fields c.in_ok-members.ensures.room c.in_ok-members.ensures.next) c.if-not-goes_on.ensures c.declared.ensures.base c.declared.ensures.vector c.declared.ensures.closes c.declared.ensures.next

pub any_base-returns-clause-out : goal.any_base-returns-clause-out
any_base-returns-clause-out t c = struct_unclosed _ _ _ _ _ c.in_ok-tag.ensures (member_behind _ _ _ _ c.in_ok-members.members _ _ c.loop-members.invariant c.in_ok-words.ensures.ok c.in_ok-names.ensures.ok c.in_ok-members.ensures.fields c.in_ok-members.ensures.room c.in_ok-members.ensures.next) c.if-not-goes_on.ensures c.declared.ensures.out

pub declor-head-requires-clause-ends : goal.declor-head-requires-clause-ends
declor-head-requires-clause-ends t c = c.requires.ends

pub declor-head-requires-clause-within : goal.declor-head-requires-clause-within
declor-head-requires-clause-within t c = c.requires.within

pub declor-returns-in_err-head-clause-ok : goal.declor-returns-in_err-head-clause-ok
declor-returns-in_err-head-clause-ok t c = not_ok _ _ _ c.from_residual.ensures.1

pub declor-returns-in_err-head-clause-out : goal.declor-returns-in_err-head-clause-out
declor-returns-in_err-head-clause-out t c = stopped _ _ _ c.from_residual.ensures.1 (c.in_err-head.ensures.out)

pub declor-loop-alloc-init : goal.declor-loop-alloc-init
declor-loop-alloc-init t c = lengths_begin _ _ _ _ c.in_ok-head.ensures.read c.in_ok-head.ensures.forth c.new-lengths.ensures.items

pub declor-is_at-requires : goal.declor-is_at-requires
declor-is_at-requires t c = c.loop-alloc.invariant.goes_on.within

pub declor-overflow_add-here : goal.declor-overflow_add-here
declor-overflow_add-here t c = let w = c.loop-alloc.invariant.goes_on.within in omega (arith, c.is_at.ensures.room, w)

pub declor-is_at-requires-in-loop-alloc : goal.declor-is_at-requires-in-loop-alloc
declor-is_at-requires-in-loop-alloc t c = bracket_more _ _ c.requires.ends c.loop-alloc-test.ensures.stands

pub declor-returns-in_err-push-clause-ok : goal.declor-returns-in_err-push-clause-ok
declor-returns-in_err-push-clause-ok t c = not_ok _ _ _ c.from_residual-in_err-push.ensures.1

pub declor-returns-in_err-push-clause-out : goal.declor-returns-in_err-push-clause-out
declor-returns-in_err-push-clause-out t c = stopped _ _ _ c.from_residual-in_err-push.ensures.1 (no_memory _ _ _)

pub declor-overflow_add-here-then-is_at : goal.declor-overflow_add-here-then-is_at
declor-overflow_add-here-then-is_at t c = let w = c.loop-alloc.invariant.goes_on.within in omega (arith, c.is_at.ensures.room, w)

pub declor-loop-alloc-smaller-then-is_at : goal.declor-loop-alloc-smaller-then-is_at
declor-loop-alloc-smaller-then-is_at t c = let w = c.loop-alloc.invariant.goes_on.within in omega (arith, w)

pub declor-loop-alloc-preserved-then-is_at : goal.declor-loop-alloc-preserved-then-is_at
declor-loop-alloc-preserved-then-is_at t c = lengths_more_missing _ _ _ _ _ _ c.requires.ends c.loop-alloc.invariant c.loop-alloc-test.ensures.stands c.if-is_at.ensures.stands c.in_ok-push.ensures.items

pub declor-overflow_add-here-else-is_at : goal.declor-overflow_add-here-else-is_at
declor-overflow_add-here-else-is_at t c = let w = c.loop-alloc.invariant.goes_on.within in omega (arith, c.is_at.ensures.room, w)

pub declor-cond-requires : goal.declor-cond-requires
declor-cond-requires t c = (let d : 32 * (length c.args.self.now - c.args.at) + 8 ≡ t = c.decreases in let a = lengths_forth _ _ _ _ _ c.loop-alloc.invariant in let m = bracket_more _ _ c.requires.ends c.loop-alloc-test.ensures.stands in omega (arith, a, m, d), (c.requires.ends, bracket_more _ _ c.requires.ends c.loop-alloc-test.ensures.stands))

pub declor-returns-in_err-length-clause-ok : goal.declor-returns-in_err-length-clause-ok
declor-returns-in_err-length-clause-ok t c = not_ok _ _ _ c.from_residual-in_err-length.ensures.1

pub declor-returns-in_err-length-clause-out : goal.declor-returns-in_err-length-clause-out
declor-returns-in_err-length-clause-out t c = stopped _ _ _ c.from_residual-in_err-length.ensures.1 (length_out _ _ _ _ _ _ c.requires.ends c.loop-alloc.invariant c.loop-alloc-test.ensures.stands c.if-is_at.ensures.stands c.in_err-length.ensures.out)

pub declor-length-requires : goal.declor-length-requires
declor-length-requires t c = record { within = c.in_ok-length.ensures.ok.read.read.within }

pub declor-returns-in_err-here-clause-ok : goal.declor-returns-in_err-here-clause-ok
declor-returns-in_err-here-clause-ok t c = not_ok _ _ _ c.from_residual-in_err-here.ensures.1

pub declor-returns-in_err-here-clause-out : goal.declor-returns-in_err-here-clause-out
declor-returns-in_err-here-clause-out t c = stopped _ _ _ c.from_residual-in_err-here.ensures.1 (length_unclosed _ _ _ _ _ _ _ c.requires.ends c.loop-alloc.invariant c.loop-alloc-test.ensures.stands c.if-is_at.ensures.stands c.in_ok-length.ensures.ok c.in_err-here.ensures.out)

pub declor-loop-alloc-smaller : goal.declor-loop-alloc-smaller
declor-loop-alloc-smaller t c = let w = c.loop-alloc.invariant.goes_on.within in let f = c.in_ok-length.ensures.ok.forth in let n = c.in_ok-here.ensures.next in omega (arith, w, f, n)

pub declor-loop-alloc-preserved : goal.declor-loop-alloc-preserved
declor-loop-alloc-preserved t c = lengths_more_given _ _ _ _ _ c.in_ok-length.length _ _ c.requires.ends c.loop-alloc.invariant c.loop-alloc-test.ensures.stands c.if-is_at.ensures.stands c.in_ok-length.ensures.ok c.in_ok-here.ensures.closes c.in_ok-here.ensures.next c.in_ok-here.ensures.lengths

pub declor-returns-clause-ok : goal.declor-returns-clause-ok
declor-returns-clause-ok t c = declor_at _ _ _ c.in_ok-head.head _ _ c.in_ok-head.ensures.tree c.loop-alloc.invariant c.loop-alloc-test.ensures.stands (built_declor _ _ _ _)

pub names-declor-requires : goal.names-declor-requires
names-declor-requires t c = (let d : 32 * (length c.args.self.now - c.args.at) + 10 ≡ t = c.decreases in omega (arith, d), (c.requires.ends, c.requires.within))

pub names-returns-in_err-first-clause-ok : goal.names-returns-in_err-first-clause-ok
names-returns-in_err-first-clause-ok t c = not_ok _ _ _ c.from_residual.ensures.1

pub names-returns-in_err-first-clause-out : goal.names-returns-in_err-first-clause-out
names-returns-in_err-first-clause-out t c = stopped _ _ _ c.from_residual.ensures.1 (names_first_out _ _ _ _ c.requires.within c.requires.some c.in_err-first.ensures.out)

pub names-returns-in_err-names-clause-ok : goal.names-returns-in_err-names-clause-ok
names-returns-in_err-names-clause-ok t c = not_ok _ _ _ c.from_residual-in_err-names.ensures.1

pub names-returns-in_err-names-clause-out : goal.names-returns-in_err-names-clause-out
names-returns-in_err-names-clause-out t c = stopped _ _ _ c.from_residual-in_err-names.ensures.1 (no_memory _ _ _)

pub names-loop-alloc-init : goal.names-loop-alloc-init
names-loop-alloc-init t c = names_begin _ _ _ c.in_ok-first.first _ c.requires.within c.requires.some c.in_ok-first.ensures.ok c.in_ok-names.ensures.list c.in_ok-names.ensures.next

pub names-is_at-requires : goal.names-is_at-requires
names-is_at-requires t c = c.loop-alloc.invariant.goes_on.within

pub names-overflow_add-names : goal.names-overflow_add-names
names-overflow_add-names t c = let w = c.loop-alloc.invariant.goes_on.within in omega (arith, c.is_at.ensures.room, w)

pub names-declor-requires-in-loop-alloc : goal.names-declor-requires-in-loop-alloc
names-declor-requires-in-loop-alloc t c = (let d : 32 * (length c.args.self.now - c.args.at) + 10 ≡ t = c.decreases in let a = c.loop-alloc.invariant.forth in let m = comma_more _ _ c.requires.ends c.if-is_at.ensures.stands in omega (arith, a, m, d), (c.requires.ends, comma_more _ _ c.requires.ends c.if-is_at.ensures.stands))

pub names-returns-in_err-name-clause-ok : goal.names-returns-in_err-name-clause-ok
names-returns-in_err-name-clause-ok t c = not_ok _ _ _ c.from_residual-in_err-name.ensures.1

pub names-returns-in_err-name-clause-out : goal.names-returns-in_err-name-clause-out
names-returns-in_err-name-clause-out t c = stopped _ _ _ c.from_residual-in_err-name.ensures.1 (names_next_out _ _ _ _ _ c.requires.ends c.loop-alloc.invariant (let h = c.loop-alloc-test.true in let e = c.len.ensures in omega (arith, h, e)) c.if-is_at.ensures.stands c.in_err-name.ensures.out)

pub names-returns-in_err-names-2-clause-ok : goal.names-returns-in_err-names-2-clause-ok
names-returns-in_err-names-2-clause-ok t c = not_ok _ _ _ c.from_residual-in_err-names-2.ensures.1

pub names-returns-in_err-names-2-clause-out : goal.names-returns-in_err-names-2-clause-out
names-returns-in_err-names-2-clause-out t c = stopped _ _ _ c.from_residual-in_err-names-2.ensures.1 (no_memory _ _ _)

pub names-loop-alloc-smaller : goal.names-loop-alloc-smaller
names-loop-alloc-smaller t c = let k = c.in_ok-name.ensures.ok.forth in let w = c.loop-alloc.invariant.goes_on.within in let n = c.in_ok-names-2.ensures.next in omega (arith, k, w, n)

pub names-loop-alloc-preserved : goal.names-loop-alloc-preserved
names-loop-alloc-preserved t c = names_go_on _ _ _ _ _ c.in_ok-name.name c.requires.ends c.loop-alloc.invariant (let h = c.loop-alloc-test.true in let e = c.len.ensures in omega (arith, h, e)) c.if-is_at.ensures.stands c.in_ok-name.ensures.ok c.in_ok-names-2.ensures.list c.in_ok-names-2.ensures.next

pub names-expect-requires-clause-within : goal.names-expect-requires-clause-within
names-expect-requires-clause-within t c = c.loop-alloc.invariant.goes_on.within

pub names-expect-requires-clause-makes : goal.names-expect-requires-clause-makes
names-expect-requires-clause-makes t c = refl

pub names-returns-in_err-next-clause-ok : goal.names-returns-in_err-next-clause-ok
names-returns-in_err-next-clause-ok t c = not_ok _ _ _ c.from_residual-in_err-next.ensures.1

pub names-returns-in_err-next-clause-out : goal.names-returns-in_err-next-clause-out
names-returns-in_err-next-clause-out t c = stopped _ _ _ c.from_residual-in_err-next.ensures.1 (names_unclosed _ _ _ _ _ c.loop-alloc.invariant (elim c.loop-alloc-test.branch as (λ _. NoName c.args.self.now c.args.room c.loop-alloc.names) [ names-then-loop-alloc-test+else-is_at w ↦ no_comma w.if-is_at.ensures.stands | names-else-loop-alloc-test w ↦ full (let h = w.loop-alloc-test.false in let e = c.len.ensures in omega (arith, h, e)) ]) c.in_err-next.ensures.out)

pub names-returns-clause-ok : goal.names-returns-clause-ok
names-returns-clause-ok t c = names_close _ _ _ c.loop-alloc.names _ c.requires.ends c.loop-alloc.invariant (elim c.loop-alloc-test.branch as (λ _. NoName c.args.self.now c.args.room c.loop-alloc.names) [ names-then-loop-alloc-test+else-is_at w ↦ no_comma w.if-is_at.ensures.stands | names-else-loop-alloc-test w ↦ full (let h = w.loop-alloc-test.false in let e = c.len.ensures in omega (arith, h, e)) ]) c.in_ok-next.ensures.ok refl c.in_ok-next.ensures.next

pub spec-qualifiers-requires-clause-ends : goal.spec-qualifiers-requires-clause-ends
spec-qualifiers-requires-clause-ends t c = c.requires.ends

pub spec-qualifiers-requires-clause-within : goal.spec-qualifiers-requires-clause-within
spec-qualifiers-requires-clause-within t c = c.requires.within

pub spec-returns-in_err-here-clause-ok : goal.spec-returns-in_err-here-clause-ok
spec-returns-in_err-here-clause-ok t c = not_ok _ _ _ c.from_residual.ensures.1

pub spec-returns-in_err-here-clause-out : goal.spec-returns-in_err-here-clause-out
spec-returns-in_err-here-clause-out t c = stopped _ _ _ c.from_residual.ensures.1 (no_type_memory sym.Spec _ _)

pub spec-any_base-requires : goal.spec-any_base-requires
spec-any_base-requires t c = (let d : 32 * (length c.args.self.now - c.args.at) + 12 ≡ t = c.decreases in let a = c.in_ok-here.ensures.read.read.forth in let w = c.in_ok-here.ensures.read.read.within in omega (arith, a, w, d), (c.requires.ends, c.in_ok-here.ensures.read.read.within))

pub spec-returns-in_err-read-clause-ok : goal.spec-returns-in_err-read-clause-ok
spec-returns-in_err-read-clause-ok t c = not_ok _ _ _ c.from_residual-in_err-read.ensures.1

pub spec-returns-in_err-read-clause-out : goal.spec-returns-in_err-read-clause-out
spec-returns-in_err-read-clause-out t c = stopped _ _ _ c.from_residual-in_err-read.ensures.1 (spec_out _ _ _ _ c.requires.within c.in_ok-here.ensures.read c.in_err-read.ensures.out)

pub spec-same-quals : goal.spec-same-quals
spec-same-quals t c = refl

pub spec-qualified-requires-clause-ends : goal.spec-qualified-requires-clause-ends
spec-qualified-requires-clause-ends t c = c.requires.ends

pub spec-qualified-requires-clause-within : goal.spec-qualified-requires-clause-within
spec-qualified-requires-clause-within t c = c.in_ok-read.ensures.ok.read.read.within

pub spec-returns-in_err-qualified-clause-ok : goal.spec-returns-in_err-qualified-clause-ok
spec-returns-in_err-qualified-clause-ok t c = not_ok _ _ _ c.from_residual-in_err-qualified.ensures.1

pub spec-returns-in_err-qualified-clause-out : goal.spec-returns-in_err-qualified-clause-out
spec-returns-in_err-qualified-clause-out t c = stopped _ _ _ c.from_residual-in_err-qualified.ensures.1 (no_type_memory sym.Spec _ _)

pub spec-returns-clause-ok : goal.spec-returns-clause-ok
spec-returns-clause-ok t c = spec_whole _ _ _ _ _ _ _ c.requires.within c.new-quals.ensures c.in_ok-here.ensures.read c.in_ok-here.ensures.quals c.in_ok-read.ensures.ok c.in_ok-qualified.ensures
