-- What the code's readings of reflection lines mean, and what it answers.
use Rattle.std.specs.Prelude.{◌≡◌, ℕ, suc, if◌then◌else◌, List, [], ◌∷◌, ◌++◌, Option, Some, None, Result, Ok, Err}
use Rattle.spv_module.specs.declared.module.Inst.{Inst}
use Rattle.spv_module.specs.Instructions.{said}
use Rattle.spv_module.specs.Interface.{word_at}
use Rattle.spv_module.specs.Options.{◌>>=◌, or_else}
use Rattle.spv_reflect.specs.declared.line.Line.{Line as Reading}
use Rattle.spv_reflect.specs.declared.line.Line.TheVariants as reading
use Rattle.spv_reflect.specs.declared.line.PlacedLine.{PlacedLine}
use Rattle.spv_reflect.specs.declared.rows.Reflection.{Reflection}
use Rattle.spv_reflect.specs.declared.stop.ReflectStop.{ReflectStop}
use Rattle.spv_reflect.specs.declared.stop.ReflectStop.TheVariants as stop
use Rattle.spv_reflect.specs.Reflection.{Line, KernelLine, NameLine, BufferLine, SizesLine, WrongLine, UnknownLine, number_at, line_of, keeps, Breaks, IsFirstBreak}

abbrev pub line_by : Reading → Line
line_by (reading.Kernel id function name) = KernelLine id function name.now
line_by (reading.Name id name) = NameLine id name.now
line_by (reading.Buffer id kernel ordinal set binding name) = BufferLine id kernel ordinal set binding name
line_by (reading.Sizes id x y z) = SizesLine id x y z
line_by (reading.Wrong id number) = WrongLine id number
line_by reading.Unknown = UnknownLine

abbrev pub three_numbers : List Inst → ℕ → ℕ → ℕ → Option (ℕ × ℕ × ℕ)
three_numbers body a b c = number_at body a >>= λ x. number_at body b >>= λ y. number_at body c >>= λ z. Some (x, y, z)

-- a line and the place of its instruction
pub record Placed : Type 0 where
  pub place : ℕ
  pub line : Line

abbrev pub placed_at : ℕ → Option Line → List Placed → List Placed
placed_at place None ls = ls
placed_at place (Some l) ls = record { place = place; line = l } ∷ ls

-- the lines among some instructions of a module, the first of which stands at a place
abbrev pub lines_from : List Inst → ℕ → List Inst → List Placed
lines_from body place [] = []
lines_from body place (i ∷ is) = placed_at place (line_of body (said i)) (lines_from body (suc place) is)

abbrev pub placed_by : List PlacedLine → List Placed
placed_by [] = []
placed_by (l ∷ ls) = record { place = l.place; line = line_by l.line } ∷ placed_by ls

abbrev pub lines_by : List PlacedLine → List Line
lines_by [] = []
lines_by (l ∷ ls) = line_by l.line ∷ lines_by ls

-- where the first of these lines stands that breaks a rule
abbrev pub first_break : ℕ → List Line → List Line → List Placed → Option ℕ
first_break rule all before [] = None
first_break rule all before (p ∷ ps) = if keeps rule all before p.line then first_break rule all (before ++ p.line ∷ []) ps else Some p.place

abbrev pub of_rule : ℕ → Option ℕ → Option (ℕ × ℕ)
of_rule rule None = None
of_rule rule (Some place) = Some (rule, place)

-- the least rule that is broken, and where
abbrev pub fault_in : List Line → List Placed → Option (ℕ × ℕ)
fault_in all ps = or_else (of_rule 1 (first_break 1 all [] ps)) (or_else (of_rule 2 (first_break 2 all [] ps)) (of_rule 4 (first_break 4 all [] ps)))

-- ---- the answers

-- This rule is the least that is broken, and this is the first word of the first instruction that breaks it.
pub record IsFirstFault (body : List Inst) (number word : ℕ) : Type 0 where
  pub place : ℕ
  pub first : IsFirstBreak body number place
  pub stands : word ≡ word_at body place

abbrev pub IsFaultOf : List Inst → ReflectStop → Type 0
IsFaultOf body stop.NoMemory = Unit {0}
IsFaultOf body (stop.Fault number word) = IsFirstFault body number word

-- what is read where these are the rows
abbrev pub Answers : Reflection → Result Reflection ReflectStop → Type 0
Answers r (Ok s) = s ≡ r
Answers r (Err stop.NoMemory) = Unit {0}
Answers r (Err (stop.Fault number word)) = ⊥

-- some rule is broken somewhere
pub record IsBroken (body : List Inst) : Type 0 where
  pub rule : ℕ
  pub place : ℕ
  pub breaks : Breaks body rule place
