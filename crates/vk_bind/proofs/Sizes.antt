-- The sizes of the groups of a launch, and the bytes of its local lines.
use Rattle.std.proofs.Common.{◌≡◌, ◌<◌, ◌≤◌, ◌+◌, ◌-◌, ℕ, Bool, true, false, ltb, refl, arith}
use Rattle.std.proofs.lemmas.Bool.{lt-ltb, le-ltb, ltb-true, ltb-false}
use Rattle.launch_text.specs.declared.launch.Launch.{Launch}
use Rattle.launch_text.specs.Readable.{IsReadable}
use Rattle.launch_text.specs.Rules.{AreSizes}
use Rattle.launch_text.specs.WorkItems.{sizes_of}

pub local_sizes : (l : Launch) → IsReadable l → AreSizes l.dims (sizes_of l.local)
local_sizes l h = (h.launch l.files refl).local

-- ---- the bytes of local lines

over_by : (left bytes rest : ℕ) (b : Bool) → ltb left (bytes + rest) ≡ b → bytes ≤ left → ltb (left - bytes) rest ≡ b
over_by left bytes rest true e h = lt-ltb (left - bytes) rest (let w = ltb-true left (bytes + rest) e in omega (arith, w, h))
over_by left bytes rest false e h = le-ltb (left - bytes) rest (let w = ltb-false left (bytes + rest) e in omega (arith, w, h))

-- with what is left of the room
pub over_later : (left bytes rest : ℕ) → bytes ≤ left → ltb (left - bytes) rest ≡ ltb left (bytes + rest)
over_later left bytes rest h = over_by left bytes rest (ltb left (bytes + rest)) refl h

pub over_now : (left bytes rest : ℕ) → left < bytes → ltb left (bytes + rest) ≡ true
over_now left bytes rest h = lt-ltb left (bytes + rest) (omega (arith, h))
