-- Where access chains come to.
use Rattle.std.proofs.Common.{◌≡◌, ℕ, ◌*◌, ◌/◌, ◌<◌, ◌≤◌, List, [], ◌∷◌, refl, arith}
use Rattle.std.proofs.Math.Nat.{mul-div-le, mul-le-mul_left}
use Rattle.spv_module.specs.declared.module.Inst.{Inst}
use Rattle.spv_meaning.specs.Invocation.{Beyond, NoWay, reached}

pub stays_beyond : (body : List Inst) (size : ℕ) (is : List ℕ) → reached body size Beyond is ≡ Beyond
stays_beyond body size [] = refl
stays_beyond body size (i ∷ is) = refl

pub stays_nowhere : (body : List Inst) (size : ℕ) (is : List ℕ) → reached body size NoWay is ≡ NoWay
stays_nowhere body size [] = refl
stays_nowhere body size (i ∷ is) = refl

pub ruleset reaching = (stays_beyond, stays_nowhere)

-- an index below a quotient
pub within : (n s i : ℕ) → i < n / s → s * i ≤ n
within n s i h = let a = mul-div-le n s in let b : s * i ≤ s * (n / s) = mul-le-mul_left s (omega (arith, h)) in omega (arith, a, b)

pub ruleset elements = (within)

pub ruleset entering = (within)
