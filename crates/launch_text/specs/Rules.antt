-- A launch with the contents of its buffers, and the rules that it keeps for what its kernel takes.
use Rattle.std.specs.Prelude.{◌≡◌, ℕ, zero, suc, ◌+◌, ◌%◌, ◌^◌, ◌<◌, ◌≤◌, nat_eq, nat_lt, nat_le, Bool, true, false, not, ◌&&◌, ◌||◌, if◌then◌else◌, List, [], ◌∷◌, length, Contains, Option, Some, None, slice_get, option_map, unwrap_or}
use Rattle.std.specs.List.{list_all, list_any}
use Rattle.std.specs.Option.{option_or}
use Rattle.launch_text.specs.declared.launch.ArgKind.{ArgKind}
use Rattle.launch_text.specs.declared.launch.ArgKind.TheVariants.{Buffer, Local, Plain}
use Rattle.launch_text.specs.declared.launch.ArgLine.{ArgLine}
use Rattle.launch_text.specs.declared.launch.Launch.{Launch}
use Rattle.launch_text.specs.WorkItems.{Sizes, sizes_of, volume}

-- A launch, with the bytes of its buffers by number. Sizes count work-items; `local` is the size of a group.
pub record LoadedLaunch : Type 0 where
  pub kernel : List ℕ
  pub dims : ℕ
  pub global : Sizes
  pub local : Sizes
  pub buffers : List (List ℕ)
  pub arguments : List ArgLine

-- the launch of a text, with these buffers
abbrev pub loaded : Launch → List (List ℕ) → LoadedLaunch
loaded l buffers = record { kernel = l.kernel; dims = l.dims; global = sizes_of l.global; local = sizes_of l.local; buffers = buffers; arguments = l.args }

-- the buffer that the launch gives the nth argument, by its number
abbrev pub buffer_by : ℕ → ℕ → ArgKind → Option ℕ
buffer_by ordinal n (Buffer file) = if nat_eq ordinal n then Some file else None
buffer_by ordinal n _ = None

abbrev pub buffer_given : ℕ → List ArgLine → Option ℕ
buffer_given n [] = None
buffer_given n (a ∷ as_) = option_or (buffer_by a.ordinal n a.kind) (buffer_given n as_)

-- its size in bytes
abbrev pub size_of : List (List ℕ) → ℕ → Option ℕ
size_of buffers file = option_map length (slice_get buffers file)

-- ---- what holds of each launch that can be written

-- a size that a launch can give: at least 1, and 1 where the dimension isn't used
pub record IsSize (dims dimension size : ℕ) : Type 0 where
  pub some : 1 ≤ size
  pub word : size < 2 ^ 32
  pub unused : dims ≤ dimension → size ≡ 1

pub record AreSizes (dims : ℕ) (s : Sizes) : Type 0 where
  pub x : IsSize dims 0 s.x
  pub y : IsSize dims 1 s.y
  pub z : IsSize dims 2 s.z

-- One to three dimensions, sizes, at most one line for an argument, and buffers that are there.
pub record IsLaunch (l : LoadedLaunch) : Type 0 where
  pub some : 1 ≤ l.dims
  pub few : l.dims ≤ 3
  pub global : AreSizes l.dims l.global
  pub local : AreSizes l.dims l.local
  pub once : (m n : ℕ) (a b : ArgLine) → slice_get l.arguments m ≡ Some a → slice_get l.arguments n ≡ Some b → a.ordinal ≡ b.ordinal → m ≡ n
  pub buffers : (ordinal file : ℕ) → Contains l.arguments (record { ordinal = ordinal; kind = Buffer file }) → file < length l.buffers

-- ---- what a kernel takes

-- An element of a buffer: its bytes, and where its scalars lie and how many bits they have.
pub record Element : Type 0 where
  pub size : ℕ
  pub scalars : List (ℕ × ℕ)

-- What a parameter is: a pointer into global or constant memory, to such elements, which may be `restrict`; a pointer into local memory, to elements of so many bytes; or a value of so many bytes.
pub data Parameter : Type 0 where
  BufferPointer : (element : Element) (restricted : Bool) → Parameter
  LocalPointer : (element : ℕ) → Parameter
  PlainValue : (size : ℕ) → Parameter

-- What a kernel takes: its parameters, and the sizes of a group that it requires.
pub record Taken : Type 0 where
  pub parameters : List Parameter
  pub required : List Sizes

-- the sizes that a kernel requires, where it does (OpenCL C 1.2, 6.7.2)
abbrev pub required_by : Option (List ℕ) → List Sizes
required_by None = []
required_by (Some sizes) = sizes_of sizes ∷ []

-- ---- rules on one argument

-- what the line of an argument gives it
abbrev pub given_to : ℕ → List ArgLine → Option ArgKind
given_to n [] = None
given_to n (a ∷ as_) = if nat_eq a.ordinal n then Some a.kind else given_to n as_

-- L11: an argument without a line, or a line past the arguments
abbrev pub is_unmatched : Option Parameter → Option ArgKind → Bool
is_unmatched (Some p) None = true
is_unmatched None (Some given) = true
is_unmatched _ _ = false

-- L12: another kind
abbrev pub is_of_kind : Parameter → ArgKind → Bool
is_of_kind (BufferPointer element restricted) (Buffer file) = true
is_of_kind (LocalPointer element) (Local bytes) = true
is_of_kind (PlainValue size) (Plain bytes) = true
is_of_kind _ _ = false

-- L13: another size of a plain argument
abbrev pub is_plain_size : Parameter → ArgKind → Bool
is_plain_size (PlainValue size) (Plain bytes) = nat_eq (length bytes) size
is_plain_size _ _ = true

abbrev pub divides : ℕ → ℕ → Bool
divides a b = nat_eq (b % a) 0

-- L14: a buffer that isn't a positive multiple of the element's size, or is over 16 MiB
abbrev pub is_buffer_size : ℕ → ℕ → Bool
is_buffer_size element bytes = nat_lt 0 bytes && divides element bytes && nat_le bytes 16777216

abbrev pub bytes_in : List (List ℕ) → ℕ → ℕ
bytes_in buffers file = unwrap_or (size_of buffers file) 0

abbrev pub is_of_size : List (List ℕ) → Parameter → ArgKind → Bool
is_of_size buffers (BufferPointer element restricted) (Buffer file) = is_buffer_size element.size (bytes_in buffers file)
is_of_size buffers _ _ = true

-- L14: or one at which the sum of the buffers goes over 64 MiB; it is taken in the order of the arguments, and each file counts once
abbrev pub is_file : ℕ → ArgKind → Bool
is_file file (Buffer k) = nat_eq k file
is_file file _ = false

abbrev pub gives_before : ℕ → ℕ → ArgLine → Bool
gives_before file n a = is_file file a.kind && nat_lt a.ordinal n

abbrev pub added_by : List (List ℕ) → List ArgLine → ℕ → Option ArgKind → ℕ
added_by buffers lines n (Some (Buffer file)) = if list_any (gives_before file n) lines then 0 else bytes_in buffers file
added_by buffers lines n _ = 0

abbrev pub sum_before : LoadedLaunch → ℕ → ℕ
sum_before l zero = 0
sum_before l (suc n) = sum_before l n + added_by l.buffers l.arguments n (given_to n l.arguments)

abbrev pub goes_over : LoadedLaunch → ℕ → Bool
goes_over l n = nat_le (sum_before l n) 67108864 && nat_lt 67108864 (sum_before l (suc n))

-- L15: one buffer for two arguments whose elements differ in size, or in where their scalars lie and in the bits of these
abbrev pub same_scalars : List (ℕ × ℕ) → List (ℕ × ℕ) → Bool
same_scalars [] [] = true
same_scalars (a ∷ as_) (b ∷ bs) = nat_eq a.0 b.0 && nat_eq a.1 b.1 && same_scalars as_ bs
same_scalars _ _ = false

abbrev pub same_elements : Parameter → Option Parameter → Bool
same_elements (BufferPointer a r) (Some (BufferPointer b s)) = nat_eq a.size b.size && same_scalars a.scalars b.scalars
same_elements _ _ = true

abbrev pub gives_other_elements : List Parameter → Parameter → ℕ → ArgLine → Bool
gives_other_elements ps p file a = is_file file a.kind && not (same_elements p (slice_get ps a.ordinal))

abbrev pub has_other_elements : List Parameter → List ArgLine → Parameter → ArgKind → Bool
has_other_elements ps lines p (Buffer file) = list_any (gives_other_elements ps p file) lines
has_other_elements ps lines p _ = false

-- L16: one buffer for two arguments, of which this one is `restrict`
abbrev pub is_restricted : Parameter → Bool
is_restricted (BufferPointer element restricted) = restricted
is_restricted _ = false

abbrev pub gives_another : ℕ → ℕ → ArgLine → Bool
gives_another file n a = is_file file a.kind && not (nat_eq a.ordinal n)

abbrev pub has_buffer_of_another : List ArgLine → ℕ → ArgKind → Bool
has_buffer_of_another lines n (Buffer file) = list_any (gives_another file n) lines
has_buffer_of_another lines n _ = false

-- L17: local bytes that aren't a multiple of the element's size
abbrev pub is_local_size : Parameter → ArgKind → Bool
is_local_size (LocalPointer element) (Local bytes) = divides element bytes
is_local_size _ _ = true

-- ---- rules on the launch as a whole

-- L18: a local size that doesn't divide the global one
abbrev pub fills_grid : Sizes → Sizes → Bool
fills_grid global local = divides local.x global.x && divides local.y global.y && divides local.z global.z

-- L19: a group of over 1,024 work-items, or a grid of over 16,384
abbrev pub is_within_limits : Sizes → Sizes → Bool
is_within_limits global local = nat_le (volume local) 1024 && nat_le (volume global) 16384

-- L20: other sizes of a group than required
abbrev pub same_sizes : Sizes → Sizes → Bool
same_sizes s t = nat_eq s.x t.x && nat_eq s.y t.y && nat_eq s.z t.z

-- L21: the bytes of the local lines, summed, are over 32,768
abbrev pub local_bytes : ArgKind → ℕ
local_bytes (Local bytes) = bytes
local_bytes _ = 0

abbrev pub local_sum : List ArgLine → ℕ
local_sum [] = 0
local_sum (a ∷ as_) = local_bytes a.kind + local_sum as_

-- ---- which rule is broken

-- A rule's number, and the argument that breaks it where it names one.
pub record BrokenRule : Type 0 where
  pub number : ℕ
  pub argument : Option ℕ

abbrev pub broken : ℕ → Option ℕ → BrokenRule
broken number argument = record { number = number; argument = argument }

-- whether an argument with a parameter and a line breaks the rule of this number
abbrev pub breaks_given : LoadedLaunch → Taken → ℕ → ℕ → Parameter → ArgKind → Bool
breaks_given l t rule n p given =
    if nat_eq rule 12 then not (is_of_kind p given)
    else if nat_eq rule 13 then not (is_plain_size p given)
    else if nat_eq rule 14 then not (is_of_size l.buffers p given) || goes_over l n
    else if nat_eq rule 15 then has_other_elements t.parameters l.arguments p given
    else if nat_eq rule 16 then is_restricted p && has_buffer_of_another l.arguments n given
    else if nat_eq rule 17 then not (is_local_size p given)
    else false

abbrev pub breaks_both : LoadedLaunch → Taken → ℕ → ℕ → Option Parameter → Option ArgKind → Bool
breaks_both l t rule n (Some p) (Some given) = breaks_given l t rule n p given
breaks_both l t rule n _ _ = false

-- whether an argument breaks it
abbrev pub breaks_at : LoadedLaunch → Taken → ℕ → ℕ → Bool
breaks_at l t rule n =
    if nat_eq rule 11 then is_unmatched (slice_get t.parameters n) (given_to n l.arguments)
    else breaks_both l t rule n (slice_get t.parameters n) (given_to n l.arguments)

-- whether the launch as a whole does
abbrev pub breaks_whole : LoadedLaunch → Taken → ℕ → Bool
breaks_whole l t rule =
    if nat_eq rule 18 then not (fills_grid l.global l.local)
    else if nat_eq rule 19 then not (is_within_limits l.global l.local)
    else if nat_eq rule 20 then not (list_all (same_sizes l.local) t.required)
    else if nat_eq rule 21 then nat_lt 32768 (local_sum l.arguments)
    else false

-- Whether the launch breaks a rule. `takes` is what the kernel of its name takes, and none where there is no such kernel (L10).
abbrev pub breaks : LoadedLaunch → Option Taken → ℕ → Option ℕ → Bool
breaks l None rule None = nat_eq rule 10
breaks l None rule (Some n) = false
breaks l (Some t) rule None = breaks_whole l t rule
breaks l (Some t) rule (Some n) = breaks_at l t rule n

abbrev pub Breaks : LoadedLaunch → Option Taken → BrokenRule → Type 0
Breaks l takes r = breaks l takes r.number r.argument ≡ true

-- an argument is no later than another
abbrev pub IsNoLater : Option ℕ → Option ℕ → Type 0
IsNoLater (Some m) (Some n) = m ≤ n
IsNoLater _ _ = Unit {0}

-- The rule that is named: the least that is broken, at the least argument.
pub record IsLeastBroken (l : LoadedLaunch) (takes : Option Taken) (r : BrokenRule) : Type 0 where
  pub breaks : Breaks l takes r
  pub least : (s : BrokenRule) → Breaks l takes s → r.number ≤ s.number
  pub first : (s : BrokenRule) → Breaks l takes s → s.number ≡ r.number → IsNoLater r.argument s.argument

-- The launch keeps all rules, for a kernel that takes this.
pub record KeepsRules (t : Taken) (l : LoadedLaunch) : Type 0 where
  pub none : (rule : ℕ) (argument : Option ℕ) → breaks l (Some t) rule argument ≡ false
