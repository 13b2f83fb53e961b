use Rattle.std.proofs.Common.{◌≡◌, ◌+◌, ◌*◌, length, arith, ap, ◌∙◌, Fits, w32}
use Rattle.spv_reflect.specs.Writing.{texts_of, args_in, other_rows}
use Rattle.spv_reflect.proofs.Counts.{length-texts_of, length-numbers_of}
use Rattle.spv_reflect.proofs.writing.build.Goals as goal

pub overflow_cast-layout : goal.overflow_cast-layout
overflow_cast-layout c =
    let t : length c.in_ok-texts.texts ≡ length c.args.r.now.kernels + args_in c.args.r.now.kernels = ap length c.in_ok-texts.ensures ∙ ap (λ ks. length (texts_of ks)) c.as_slice.ensures ∙ length-texts_of c.args.r.now.kernels in
    omega (arith, c.requires, t, c.len.ensures)

pub overflow_cast-layout-2 : goal.overflow_cast-layout-2
overflow_cast-layout-2 c =
    let t : length c.in_ok-texts.texts ≡ length c.args.r.now.kernels + args_in c.args.r.now.kernels = ap length c.in_ok-texts.ensures ∙ ap (λ ks. length (texts_of ks)) c.as_slice.ensures ∙ length-texts_of c.args.r.now.kernels in
    let n : length c.in_ok-numbers.numbers ≡ 3 * args_in c.args.r.now.kernels + 3 * other_rows c.args.r.now.sizes = ap length c.in_ok-numbers.ensures.numbers ∙ length-numbers_of c.args.r.now c.in_ok-numbers.ensures.three in
    omega (arith, c.requires, t, n, c.len-2.ensures)

pub put_front-requires : goal.put_front-requires
put_front-requires c =
    let t : length c.in_ok-texts.texts ≡ length c.args.r.now.kernels + args_in c.args.r.now.kernels = ap length c.in_ok-texts.ensures ∙ ap (λ ks. length (texts_of ks)) c.as_slice.ensures ∙ length-texts_of c.args.r.now.kernels in
    let n : length c.in_ok-numbers.numbers ≡ 3 * args_in c.args.r.now.kernels + 3 * other_rows c.args.r.now.sizes = ap length c.in_ok-numbers.ensures.numbers ∙ length-numbers_of c.args.r.now c.in_ok-numbers.ensures.three in
    let a = ap length c.as_slice-2.ensures in
    omega (arith, c.requires, t, n, a)

pub put_types-requires : goal.put_types-requires
put_types-requires c =
    let t : length c.in_ok-texts.texts ≡ length c.args.r.now.kernels + args_in c.args.r.now.kernels = ap length c.in_ok-texts.ensures ∙ ap (λ ks. length (texts_of ks)) c.as_slice.ensures ∙ length-texts_of c.args.r.now.kernels in
    let n : length c.in_ok-numbers.numbers ≡ 3 * args_in c.args.r.now.kernels + 3 * other_rows c.args.r.now.sizes = ap length c.in_ok-numbers.ensures.numbers ∙ length-numbers_of c.args.r.now c.in_ok-numbers.ensures.three in
    let a = ap length c.as_slice-3.ensures in
    omega (arith, c.requires, t, n, c.len.ensures, c.len-2.ensures, a)

pub put_back-requires : goal.put_back-requires
put_back-requires c =
    let t : length c.in_ok-texts.texts ≡ length c.args.r.now.kernels + args_in c.args.r.now.kernels = ap length c.in_ok-texts.ensures ∙ ap (λ ks. length (texts_of ks)) c.as_slice.ensures ∙ length-texts_of c.args.r.now.kernels in
    let n : length c.in_ok-numbers.numbers ≡ 3 * args_in c.args.r.now.kernels + 3 * other_rows c.args.r.now.sizes = ap length c.in_ok-numbers.ensures.numbers ∙ length-numbers_of c.args.r.now c.in_ok-numbers.ensures.three in
    omega (arith, c.requires, t, n, c.len.ensures, c.len-2.ensures)
