use Rattle.std.proofs.Common.{◌≡◌, ◌+◌, ◌*◌, ◌-◌, None, Some, refl, sym, ◌∙◌, arith, rules}
use Rattle.cl_meaning.specs.Views.{bytes_by}
use Rattle.cl_meaning.proofs.LowBytes.{lower, unset_byte, grown, roomy}
use Rattle.cl_meaning.proofs.memory.number_at.Goals as goal

pub returns-in_err-byte : goal.returns-in_err-byte
returns-in_err-byte c =
    let bytes = bytes_by c.args.bytes.now in
    let place = c.args.at + (c.loop-k.k - 1) in
    let gone : c.byte_at.result ≡ None = search rules in
    let answer : c.from_residual.result ≡ None = search rules in
    answer ∙ sym (unset_byte bytes c.args.at (c.loop-k.k - 1) c.args.count place refl (sym c.byte_at.ensures.value ∙ gone) (omega arith))

pub overflow_mul-number : goal.overflow_mul-number
overflow_mul-number c =
    let small = roomy c.loop-k.number (c.args.count - c.loop-k.k) c.loop-k.invariant.small (omega arith) in
    omega (arith, small)

pub overflow_add-number : goal.overflow_add-number
overflow_add-number c =
    let small = roomy c.loop-k.number (c.args.count - c.loop-k.k) c.loop-k.invariant.small (omega arith) in
    omega (arith, small, c.in_ok-byte.ensures.small)

pub loop-k-preserved : goal.loop-k-preserved
loop-k-preserved c =
    let number = c.loop-k.number in
    let byte = c.in_ok-byte.byte in
    let k = c.loop-k.k in
    let place = c.args.at + (k - 1) in
    let there : bytes_by c.args.bytes.now place ≡ Some byte = sym c.in_ok-byte.ensures.value in
    record {
      read = lower (bytes_by c.args.bytes.now) (c.args.at + k) place (c.args.count - k) (c.args.count - (k - 1)) byte number (number * 256 + byte) c.loop-k.invariant.read there (omega arith) (omega arith) refl;
      small = grown number byte (c.args.count - k) (c.args.count - (k - 1)) (number * 256 + byte) c.loop-k.invariant.small c.in_ok-byte.ensures.small (omega arith) refl;
    }
