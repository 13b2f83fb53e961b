-- What the calls of this crate answer, in the words of the definitions.
use Rattle.std.specs.Prelude.{◌≡◌, ℕ, suc, ◌<◌, ◌≤◌, Bool, true, false, not, ◌&&◌, ◌||◌, nat_lt, nat_le, if◌then◌else◌, List, [], length, map, Option, Some, None, Contains, slice_get}
use Rattle.launch_text.specs.declared.launch.ArgLine.{ArgLine}
use Rattle.launch_text.specs.Rules.{LoadedLaunch, Parameter, BufferPointer, Taken, required_by, BrokenRule, broken, given_to, is_of_kind, has_other_elements, is_restricted, has_buffer_of_another, sum_before, breaks_at, breaks_whole, Breaks, IsLeastBroken, KeepsRules}
use Rattle.launch_text.specs.declared.launch.ArgKind.{ArgKind}
use Rattle.launch_text.specs.WorkItems.{sizes_of}
use Rattle.spv_meaning.specs.Start.{Bound, Specialised, Start}
use Rattle.spv_module.specs.declared.module.Inst.{Inst}
use Rattle.spv_module.specs.declared.module.Module.{Module}
use Rattle.spv_module.specs.declared.enumerant.decoration.TheConstants as decoration
use Rattle.spv_module.specs.Instructions.{decoration_in}
use Rattle.spv_module.specs.Interface.{number_of}
use Rattle.spv_module.specs.Options.{◌>>=◌}
use Rattle.spv_reflect.specs.declared.rows.KernelRow.{KernelRow}
use Rattle.spv_reflect.specs.declared.rows.Reflection.{Reflection}
use Rattle.vk_bind.specs.declared.binding.Broken.{Broken}
use Rattle.vk_bind.specs.declared.elements.Scalar.{Scalar}
use Rattle.vk_bind.specs.declared.parameters.Parameter.{Parameter as Found}
use Rattle.vk_bind.specs.declared.rules.ArgumentRule.{ArgumentRule}
use Rattle.vk_bind.specs.declared.rules.ArgumentRule.TheVariants.{Kind, Elements, Restricted}
use Rattle.vk_bind.specs.declared.start.BindStop.{BindStop}
use Rattle.vk_bind.specs.declared.start.BindStop.TheVariants.{Fault, NoMemory}
use Rattle.vk_bind.specs.declared.start.Bound.{Bound as Pair}
use Rattle.vk_bind.specs.declared.start.Spec.{Spec}
use Rattle.vk_bind.specs.declared.start.Start.{Start as Begin}
use Rattle.vk_bind.specs.Binding.{array_of, taken_of, kernel_among}
use Rattle.vk_bind.specs.Elements.{element_in}

-- ---- what values of the code mean

abbrev pub scalar_of : Scalar → ℕ × ℕ
scalar_of s = (s.offset, s.bits)

abbrev pub scalars_of : List Scalar → List (ℕ × ℕ)
scalars_of = map scalar_of

-- the bytes from one element of an array to the next, and the type of its elements
abbrev pub stride_and_element : List Inst → ℕ → Option (ℕ × ℕ)
stride_and_element body array = number_of (decoration_in body array decoration.ARRAY_STRIDE) >>= λ stride. element_in body array >>= λ element. Some (stride, element)

abbrev pub elements_by : List Inst → ℕ → Option (ℕ × ℕ)
elements_by body v = array_of body v >>= stride_and_element body

abbrev pub parameter_from : Found → Parameter
parameter_from p = BufferPointer (record { size = p.stride; scalars = scalars_of p.scalars }) p.restricted

abbrev pub parameters_from : List Found → List Parameter
parameters_from = map parameter_from

abbrev pub taken_from : List Found → Option (List ℕ) → Taken
taken_from found required = record { parameters = parameters_from found; required = required_by required }

abbrev pub bound_of : Pair → Bound
bound_of b = record { set = b.set; binding = b.binding; buffer = b.buffer }

abbrev pub bounds_from : List Pair → List Bound
bounds_from = map bound_of

abbrev pub spec_of : Spec → Specialised
spec_of s = record { id = s.id; value = s.value }

abbrev pub specs_from : List Spec → List Specialised
specs_from = map spec_of

abbrev pub start_from : Begin → Start
start_from s = record { function = s.function; global = sizes_of s.global; local = sizes_of s.local; buffers = s.buffers; bound = bounds_from s.bound; specialised = specs_from s.specs }

abbrev pub rule_from : Broken → BrokenRule
rule_from b = broken b.number b.arg

-- what the run is given unchanged
pub record Keeps (checked : Module) (buffers : List (List ℕ)) (s : Begin) : Type 0 where
  pub same_module : s.checked ≡ checked
  pub same_buffers : s.buffers ≡ buffers
  pub counted : s.named ≡ length buffers
  pub no_push : s.push ≡ []

-- Why a launch isn't bound: the least rule that it breaks, at the least argument; or want of memory, of which nothing is said.
abbrev pub IsStopOf : LoadedLaunch → Option Taken → BindStop → Type 0
IsStopOf l takes (Fault number arg) = IsLeastBroken l takes (broken number arg)
IsStopOf l takes NoMemory = Unit {0}

-- The launch keeps the rules on what the row takes.
pub record Suits (body : List Inst) (row : KernelRow) (l : LoadedLaunch) : Type 0 where
  pub taken : Taken
  pub takes : taken_of body row ≡ Some taken
  pub rules : KeepsRules taken l

-- The row is that of the launch's kernel, and the launch keeps the rules on what the kernel takes.
pub record IsAccepted (body : List Inst) (r : Reflection) (l : LoadedLaunch) (row : KernelRow) : Type 0 where
  pub found : kernel_among l.kernel r.kernels ≡ Some row
  pub suits : Suits body row l

-- ---- one rule by itself

abbrev pub number_by : ArgumentRule → ℕ
number_by Kind = 12
number_by Elements = 15
number_by Restricted = 16

-- whether an argument breaks it, for these parameters and lines
abbrev pub alone_by : List Parameter → List ArgLine → ArgumentRule → ℕ → Parameter → ArgKind → Bool
alone_by ps lines Kind n p given = not (is_of_kind p given)
alone_by ps lines Elements n p given = has_other_elements ps lines p given
alone_by ps lines Restricted n p given = is_restricted p && has_buffer_of_another lines n given

abbrev pub alone_both : List Parameter → List ArgLine → ArgumentRule → ℕ → Option Parameter → Option ArgKind → Bool
alone_both ps lines rule n (Some p) (Some given) = alone_by ps lines rule n p given
alone_both ps lines rule n _ _ = false

abbrev pub alone_at : List Parameter → List ArgLine → ArgumentRule → ℕ → Bool
alone_at ps lines rule n = alone_both ps lines rule n (slice_get ps n) (given_to n lines)

-- no argument breaks the rule
pub record NoneBreaks (l : LoadedLaunch) (t : Taken) (rule : ℕ) : Type 0 where
  pub none : (n : ℕ) → breaks_at l t rule n ≡ false

-- the argument breaks the rule, and none before it does
pub record IsFirst (l : LoadedLaunch) (t : Taken) (rule n : ℕ) : Type 0 where
  pub breaks : breaks_at l t rule n ≡ true
  pub before : (m : ℕ) → m < n → breaks_at l t rule m ≡ false

abbrev pub Finds : LoadedLaunch → Taken → ℕ → Option ℕ → Type 0
Finds l t rule None = NoneBreaks l t rule
Finds l t rule (Some n) = IsFirst l t rule n

-- no rule from 18 on is broken by the launch as a whole
pub record NoneWhole (l : LoadedLaunch) (t : Taken) : Type 0 where
  pub none : (rule : ℕ) → 18 ≤ rule → breaks_whole l t rule ≡ false

-- it breaks this one, and none of those between
pub record IsFirstWhole (l : LoadedLaunch) (t : Taken) (rule : ℕ) : Type 0 where
  pub high : 18 ≤ rule
  pub breaks : breaks_whole l t rule ≡ true
  pub before : (other : ℕ) → 18 ≤ other → other < rule → breaks_whole l t other ≡ false

abbrev pub FindsWhole : LoadedLaunch → Taken → Option ℕ → Type 0
FindsWhole l t None = NoneWhole l t
FindsWhole l t (Some rule) = IsFirstWhole l t rule

-- the least rule that is broken, or none is
abbrev pub Decides : LoadedLaunch → Taken → Option Broken → Type 0
Decides l t (Some b) = IsLeastBroken l (Some t) (rule_from b)
Decides l t None = KeepsRules t l

-- The sum of the buffers up to an argument, which is within the limit. None where the argument breaks rule 14.
pub record IsSum (l : LoadedLaunch) (t : Taken) (n sum : ℕ) : Type 0 where
  pub keeps : breaks_at l t 14 n ≡ false
  pub is : sum ≡ sum_before l (suc n)
  pub within : sum ≤ 67108864

abbrev pub sum_within : ℕ → Option ℕ
sum_within sum = if nat_lt 67108864 sum then None else Some sum

abbrev pub SumAfter : LoadedLaunch → Taken → ℕ → Option ℕ → Type 0
SumAfter l t n (Some sum) = IsSum l t n sum
SumAfter l t n None = breaks_at l t 14 n ≡ true

-- ---- lines

pub record AreGiven (count : ℕ) (args : List ArgLine) : Type 0 where
  pub given : (n : ℕ) → n < count → (kind : ArgKind) × (given_to n args ≡ Some kind)

pub record IsFirstMissing (count : ℕ) (args : List ArgLine) (n : ℕ) : Type 0 where
  pub within : n < count
  pub missing : given_to n args ≡ None
  pub before : AreGiven n args

abbrev pub FindsMissing : ℕ → List ArgLine → Option ℕ → Type 0
FindsMissing count args None = AreGiven count args
FindsMissing count args (Some n) = IsFirstMissing count args n

pub record AreWithin (count : ℕ) (args : List ArgLine) : Type 0 where
  pub within : (a : ArgLine) → Contains args a → a.ordinal < count

pub record IsLeastPast (count : ℕ) (args : List ArgLine) (n : ℕ) : Type 0 where
  pub past : count ≤ n
  pub kind : ArgKind
  pub line : Contains args (record { ordinal = n; kind = kind })
  pub least : (a : ArgLine) → Contains args a → count ≤ a.ordinal → n ≤ a.ordinal

abbrev pub FindsPast : ℕ → List ArgLine → Option ℕ → Type 0
FindsPast count args None = AreWithin count args
FindsPast count args (Some n) = IsLeastPast count args n

abbrev pub sooner : Option ℕ → ℕ → ℕ → Option ℕ
sooner (Some m) count n = if nat_lt n count || nat_le m n then Some m else Some n
sooner None count n = if nat_lt n count then None else Some n

-- ---- laws

-- a launch that breaks no rule keeps the rules
abbrev pub UnbrokenIsKept : Type 0
UnbrokenIsKept = (l : LoadedLaunch) (t : Taken) → ((r : BrokenRule) → Breaks l (Some t) r → ⊥) → KeepsRules t l

-- and one that keeps the rules breaks none
abbrev pub KeptIsUnbroken : Type 0
KeptIsUnbroken = (l : LoadedLaunch) (t : Taken) → KeepsRules t l → (r : BrokenRule) → Breaks l (Some t) r → ⊥
