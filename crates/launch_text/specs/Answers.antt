-- What the calls of this crate answer, beside the words of the format.
use Rattle.std.specs.Prelude.{◌≡◌, ℕ, List, map, Result, Ok, Err}
use denote.Ref.{Bor}
use Rattle.launch_text.specs.declared.launch.LaunchStop.{LaunchStop}
use Rattle.launch_text.specs.declared.launch.LaunchStop.TheVariants as stop
use Rattle.launch_text.specs.declared.said.LineStop.{LineStop}
use Rattle.launch_text.specs.declared.said.LineStop.TheVariants.{Broken, NoMemory}

-- the texts that words are
abbrev pub texts_of : List (Bor (List ℕ)) → List (List ℕ)
texts_of = map (λ word. word.now)

-- The answer of a call that rules decide; of want of memory nothing is said.
abbrev pub Answers : {T : Type 0} → Result T LineStop → Result T ℕ → Type 0
Answers (Ok x) verdict = verdict ≡ Ok x
Answers (Err (Broken rule)) verdict = verdict ≡ Err rule
Answers (Err NoMemory) verdict = Unit {0}

-- The same of a call that changes its receiver, which has the new value on Ok.
abbrev pub Changes : {U T : Type 0} → Result U LineStop → T → Result T ℕ → Type 0
Changes (Ok x) new verdict = verdict ≡ Ok new
Changes (Err (Broken rule)) new verdict = verdict ≡ Err rule
Changes (Err NoMemory) new verdict = Unit {0}

abbrev pub stop_at : LineStop → ℕ → LaunchStop
stop_at (Broken rule) line = stop.Fault rule line
stop_at NoMemory line = stop.NoMemory
