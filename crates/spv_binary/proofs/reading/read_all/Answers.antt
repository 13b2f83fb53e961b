use Rattle.std.proofs.Common.{◌∙◌, ap, refl, Err, length, arith, rules}
use Rattle.std.proofs.lemmas.List.{length-drop}
use Rattle.std.proofs.lemmas.Result.{err_from_is_err_and}
use Rattle.spv_binary.proofs.Files.{long_fault, header_stops, body_stops, ragged_stops, all_found, words_bound, header_long}
use Rattle.spv_binary.proofs.reading.read_all.Goals as goal

pub returns-then-bytes-gt-MAX_BYTES-clause-first : goal.returns-then-bytes-gt-MAX_BYTES-clause-first
returns-then-bytes-gt-MAX_BYTES-clause-first c = rw c.fault.ensures (long_fault c.args.bytes.now c.if-bytes-gt-MAX_BYTES.true)

pub read_header-requires : goal.read_header-requires
read_header-requires c = words_bound c.args.bytes.now c.as_slice-words.result.now c.if-bytes-gt-MAX_BYTES.false (c.as_slice-words.ensures.value ∙ c.in_ok-read.ensures)

pub returns-in_err-generator-clause-first : goal.returns-in_err-generator-clause-first
returns-in_err-generator-clause-first c =
    let p = err_from_is_err_and c.from_residual-in_err-generator.result c.from_residual-in_err-generator.ensures.1 in
    header_stops c.args.bytes.now c.as_slice-words.result.now c.in_err-generator.field-0.0 c.from_residual-in_err-generator.result c.if-bytes-gt-MAX_BYTES.false (c.as_slice-words.ensures.value ∙ c.in_ok-read.ensures) c.in_err-generator.ensures (p.1 ∙ ap Err p.2)

pub behind-requires : goal.behind-requires
behind-requires c = header_long c.as_slice-words.result.now c.in_ok-generator.generator c.in_ok-generator.bound c.in_ok-generator.ensures

pub read_body-requires : goal.read_body-requires
read_body-requires c =
    let small = words_bound c.args.bytes.now c.as_slice-words.result.now c.if-bytes-gt-MAX_BYTES.false (c.as_slice-words.ensures.value ∙ c.in_ok-read.ensures) in
    let long = header_long c.as_slice-words.result.now c.in_ok-generator.generator c.in_ok-generator.bound c.in_ok-generator.ensures in
    rw c.behind.ensures (omega (arith, length-drop 5 c.as_slice-words.result.now))

pub returns-in_err-body-clause-first : goal.returns-in_err-body-clause-first
returns-in_err-body-clause-first c =
    let p = err_from_is_err_and c.from_residual-in_err-body.result c.from_residual-in_err-body.ensures.1 in
    body_stops c.args.bytes.now c.as_slice-words.result.now c.in_ok-generator.generator c.in_ok-generator.bound c.behind.result.now c.in_err-body.field-0.0 c.from_residual-in_err-body.result c.if-bytes-gt-MAX_BYTES.false (c.as_slice-words.ensures.value ∙ c.in_ok-read.ensures) c.in_ok-generator.ensures c.behind.ensures c.in_err-body.ensures (p.1 ∙ ap Err p.2)

pub returns-then-bytes-ne0-clause-first : goal.returns-then-bytes-ne0-clause-first
returns-then-bytes-ne0-clause-first c =
    ragged_stops c.args.bytes.now c.as_slice-words.result.now c.in_ok-generator.generator c.in_ok-generator.bound c.behind.result.now c.in_ok-body.body (length c.as_slice-words.result.now) c.fault-then-bytes-ne0.result c.if-bytes-gt-MAX_BYTES.false (c.as_slice-words.ensures.value ∙ c.in_ok-read.ensures) c.in_ok-generator.ensures c.behind.ensures c.in_ok-body.ensures c.if-bytes-ne0.true refl c.fault-then-bytes-ne0.ensures

pub returns-clause-found : goal.returns-clause-found
returns-clause-found c =
    all_found c.args.bytes.now c.as_slice-words.result.now c.in_ok-generator.generator c.in_ok-generator.bound c.behind.result.now c.in_ok-body.body (λ i. omega (arith, c.type_inv.bytes i)) c.if-bytes-gt-MAX_BYTES.false (c.as_slice-words.ensures.value ∙ c.in_ok-read.ensures) c.in_ok-generator.ensures c.behind.ensures c.in_ok-body.ensures c.if-bytes-ne0.false

pub overflow_cast-words : goal.overflow_cast-words
overflow_cast-words c =
    let small = words_bound c.args.bytes.now c.as_slice-words.result.now c.if-bytes-gt-MAX_BYTES.false (c.as_slice-words.ensures.value ∙ c.in_ok-read.ensures) in
    search rules
