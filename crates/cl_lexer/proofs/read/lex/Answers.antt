use Rattle.std.proofs.Common.{drop, sym, ap, ◌∙◌, arith}
use Rattle.cl_lexer.specs.Fronts.{front_of}
use Rattle.cl_lexer.proofs.Reading.{leads_line_end, leads_parted, leads_taken, leads_end, leads_offence, line_end_bound, line_end_shorter, parted_bound, parted_shorter, taken_bound, taken_shorter}
use Rattle.cl_lexer.proofs.read.lex.Goals as goal

pub returns-in-End : goal.returns-in-End
returns-in-End c =
    let front = ap (front_of c.loop-list.stage) (sym (c.rest_of.ensures ∙ ap (drop c.loop-list.at) c.deref.ensures.value)) ∙ sym c.in_ok-front_of.ensures ∙ c.in-End.is in
    leads_end c.args.text.now c.in_ok-joined.joined.bytes.items c.in_ok-joined.joined.places.items c.loop-list.at c.loop-list.stage c.loop-list.spaced c.end.result c.loop-list.list c.if-text-gt-MAX_TEXT.false c.loop-list.invariant.spread front c.end.ensures c.loop-list.invariant.leads

pub loop-list-smaller-in-LineEnd : goal.loop-list-smaller-in-LineEnd
loop-list-smaller-in-LineEnd c =
    let front = ap (front_of c.loop-list.stage) (sym (c.rest_of.ensures ∙ ap (drop c.loop-list.at) c.deref.ensures.value)) ∙ sym c.in_ok-front_of.ensures ∙ c.in-LineEnd.is in
    line_end_shorter c.in_ok-joined.joined.bytes.items c.loop-list.at c.loop-list.stage front

pub loop-list-preserved-in-LineEnd : goal.loop-list-preserved-in-LineEnd
loop-list-preserved-in-LineEnd c =
    let front = ap (front_of c.loop-list.stage) (sym (c.rest_of.ensures ∙ ap (drop c.loop-list.at) c.deref.ensures.value)) ∙ sym c.in_ok-front_of.ensures ∙ c.in-LineEnd.is in
    let bound = line_end_bound c.in_ok-joined.joined.bytes.items c.loop-list.at c.loop-list.stage front in
    record {
      within = omega (arith, bound);
      spread = c.loop-list.invariant.spread;
      leads = leads_line_end c.args.text.now c.in_ok-joined.joined.bytes.items c.in_ok-joined.joined.places.items c.loop-list.at c.loop-list.stage c.loop-list.spaced c.loop-list.list c.loop-list.invariant.spread front c.loop-list.invariant.leads;
    }

pub overflow_add-at-in-Apart : goal.overflow_add-at-in-Apart
overflow_add-at-in-Apart c =
    let front = ap (front_of c.loop-list.stage) (sym (c.rest_of.ensures ∙ ap (drop c.loop-list.at) c.deref.ensures.value)) ∙ sym c.in_ok-front_of.ensures ∙ c.in-Apart.is in
    let bound = parted_bound c.in_ok-joined.joined.bytes.items c.loop-list.at c.in-Apart.length c.loop-list.stage c.loop-list.invariant.within front in
    let small = c.in_ok-joined.joined.bytes.small in
    omega (arith, bound.1, small)

pub loop-list-smaller-in-Apart : goal.loop-list-smaller-in-Apart
loop-list-smaller-in-Apart c =
    let front = ap (front_of c.loop-list.stage) (sym (c.rest_of.ensures ∙ ap (drop c.loop-list.at) c.deref.ensures.value)) ∙ sym c.in_ok-front_of.ensures ∙ c.in-Apart.is in
    parted_shorter c.in_ok-joined.joined.bytes.items c.loop-list.at c.in-Apart.length c.loop-list.stage c.loop-list.invariant.within front

pub loop-list-preserved-in-Apart : goal.loop-list-preserved-in-Apart
loop-list-preserved-in-Apart c =
    let front = ap (front_of c.loop-list.stage) (sym (c.rest_of.ensures ∙ ap (drop c.loop-list.at) c.deref.ensures.value)) ∙ sym c.in_ok-front_of.ensures ∙ c.in-Apart.is in
    let bound = parted_bound c.in_ok-joined.joined.bytes.items c.loop-list.at c.in-Apart.length c.loop-list.stage c.loop-list.invariant.within front in
    record {
      within = bound.1;
      spread = c.loop-list.invariant.spread;
      leads = leads_parted c.args.text.now c.in_ok-joined.joined.bytes.items c.in_ok-joined.joined.places.items c.loop-list.at c.in-Apart.length c.loop-list.stage c.loop-list.spaced c.loop-list.list c.loop-list.invariant.spread front c.loop-list.invariant.leads;
    }

pub overflow_add-at-in-Begins : goal.overflow_add-at-in-Begins
overflow_add-at-in-Begins c =
    let front = ap (front_of c.loop-list.stage) (sym (c.rest_of.ensures ∙ ap (drop c.loop-list.at) c.deref.ensures.value)) ∙ sym c.in_ok-front_of.ensures ∙ c.in-Begins.is in
    let bound = taken_bound c.in_ok-joined.joined.bytes.items c.loop-list.at c.in-Begins.length c.loop-list.stage c.in-Begins.kind c.loop-list.invariant.within front in
    let small = c.in_ok-joined.joined.bytes.small in
    omega (arith, bound, small)

pub loop-list-smaller : goal.loop-list-smaller
loop-list-smaller c =
    let front = ap (front_of c.loop-list.stage) (sym (c.rest_of.ensures ∙ ap (drop c.loop-list.at) c.deref.ensures.value)) ∙ sym c.in_ok-front_of.ensures ∙ c.in-Begins.is in
    taken_shorter c.in_ok-joined.joined.bytes.items c.loop-list.at c.in-Begins.length c.loop-list.stage c.after-next.result c.in-Begins.kind c.loop-list.invariant.within front c.after-next.ensures

pub loop-list-preserved : goal.loop-list-preserved
loop-list-preserved c =
    let front = ap (front_of c.loop-list.stage) (sym (c.rest_of.ensures ∙ ap (drop c.loop-list.at) c.deref.ensures.value)) ∙ sym c.in_ok-front_of.ensures ∙ c.in-Begins.is in
    record {
      within = taken_bound c.in_ok-joined.joined.bytes.items c.loop-list.at c.in-Begins.length c.loop-list.stage c.in-Begins.kind c.loop-list.invariant.within front;
      spread = c.loop-list.invariant.spread;
      leads = leads_taken c.args.text.now c.in_ok-joined.joined.bytes.items c.in_ok-joined.joined.places.items c.loop-list.at c.in-Begins.length c.loop-list.stage c.after-next.result c.loop-list.spaced c.is_beginning.result c.in-Begins.kind c.place.result c.loop-list.list _ c.loop-list.invariant.spread c.loop-list.invariant.within front c.place.ensures c.is_beginning.ensures c.after-next.ensures c.in_ok-push-in-Begins.ensures.ok c.loop-list.invariant.leads;
    }

pub returns-in-Bad : goal.returns-in-Bad
returns-in-Bad c =
    let front = ap (front_of c.loop-list.stage) (sym (c.rest_of.ensures ∙ ap (drop c.loop-list.at) c.deref.ensures.value)) ∙ sym c.in_ok-front_of.ensures ∙ c.in-Bad.is in
    leads_offence c.args.text.now c.in_ok-joined.joined.bytes.items c.in_ok-joined.joined.places.items c.loop-list.at c.in-Bad.code c.loop-list.stage c.loop-list.spaced c.place-in-Bad.result c.loop-list.list c.if-text-gt-MAX_TEXT.false c.loop-list.invariant.spread c.loop-list.invariant.within front c.place-in-Bad.ensures c.loop-list.invariant.leads
