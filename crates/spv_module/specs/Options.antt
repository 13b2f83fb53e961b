-- Answers that may be missing.
use Rattle.std.specs.Prelude.{Bool, true, false, Option, Some, None, List, [], ◌∷◌}

infixl 10 ◌>>=◌
-- the second answer, made of the first
abbrev pub ◌>>=◌ : {A B : Type 0} → Option A → (A → Option B) → Option B
None >>= f = None
(Some a) >>= f = f a

abbrev pub or_else : {A : Type 0} → Option A → Option A → Option A
or_else (Some a) b = Some a
or_else None b = b

abbrev pub only_if : {A : Type 0} → Bool → A → Option A
only_if true a = Some a
only_if false a = None

abbrev pub is_there : {A : Type 0} → Option A → Bool
is_there (Some a) = true
is_there None = false

-- the answer for each member, where each has one
abbrev pub for_each : {A B : Type 0} → (A → Option B) → List A → Option (List B)
for_each f [] = Some []
for_each f (a ∷ as_) = f a >>= λ b. for_each f as_ >>= λ bs. Some (b ∷ bs)

abbrev pub or_default : {A : Type 0} → Option A → A → A
or_default (Some a) d = a
or_default None d = d
