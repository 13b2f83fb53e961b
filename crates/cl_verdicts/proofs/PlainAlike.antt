-- Lists whose members say the same, one by one.
use Rattle.std.proofs.Common.{◌≡◌, List, [], ◌∷◌, map, Option, Some, None, ap, refl, sym, ◌∙◌, subst}
use Rattle.cl_plain.specs.Plain.{Plain, Plains, Head, tree, none, more, plains, in_option}

pub data Alike {A : Type 0} (says : A → Plain) : List A → List A → Type 0 where
  nothing : Alike says [] []
  each : (x y : A) (xs ys : List A) → says x ≡ says y → Alike says xs ys → Alike says (x ∷ xs) (y ∷ ys)

-- the first of a list that has one, and what is behind it
abbrev first_or : Plain → List Plain → Plain
first_or z [] = z
first_or z (t ∷ ts) = t

abbrev behind : List Plain → List Plain
behind [] = []
behind (t ∷ ts) = ts

abbrev HasFirst : List Plain → Type 0
HasFirst [] = ⊥
HasFirst (t ∷ ts) = Unit {0}

pub alike : {A : Type 0} (says : A → Plain) (xs ys : List A) → map says xs ≡ map says ys → Alike says xs ys
alike says [] [] p = nothing
alike says [] (y ∷ ys) p = absurd (subst HasFirst (sym p) tt)
alike says (x ∷ xs) [] p = absurd (subst HasFirst p tt)
alike says (x ∷ xs) (y ∷ ys) p = each x y xs ys (ap (first_or (says x)) p) (alike says xs ys (ap behind p))

-- ---- lists in trees

abbrev list_of : Plains → List Plain
list_of none = []
list_of (more t ts) = t ∷ list_of ts

of_plains : (ts : List Plain) → list_of (plains ts) ≡ ts
of_plains [] = refl
of_plains (t ∷ ts) = ap (λ us. t ∷ us) (of_plains ts)

pub plains_one : (ts us : List Plain) → plains ts ≡ plains us → ts ≡ us
plains_one ts us p = sym (of_plains ts) ∙ ap list_of p ∙ of_plains us

pub plains_alike : {A : Type 0} (says : A → Plain) (xs ys : List A) → plains (map says xs) ≡ plains (map says ys) → Alike says xs ys
plains_alike says xs ys p = alike says xs ys (plains_one (map says xs) (map says ys) p)

-- parts of trees
abbrev pub head_of : Plain → Head
head_of (tree h ts) = h

abbrev pub parts_of : Plain → Plains
parts_of (tree h ts) = ts

abbrev first_of : Plain → Plains → Plain
first_of z none = z
first_of z (more t ts) = t

abbrev others_of : Plains → Plains
others_of none = none
others_of (more t ts) = ts

pub first_same : (t u : Plain) (ts us : Plains) → more t ts ≡ more u us → t ≡ u
first_same t u ts us p = ap (first_of t) p

pub others_same : (t u : Plain) (ts us : Plains) → more t ts ≡ more u us → ts ≡ us
others_same t u ts us p = ap others_of p

-- ---- what may be missing

pub data MayBeAlike {A : Type 0} (says : A → Plain) : Option A → Option A → Type 0 where
  both_missing : MayBeAlike says None None
  both_given : (x y : A) → says x ≡ says y → MayBeAlike says (Some x) (Some y)

abbrev HasParts : Plain → Type 0
HasParts (tree h none) = ⊥
HasParts (tree h (more t ts)) = Unit {0}

pub may_be_alike : {A : Type 0} (says : A → Plain) (x y : Option A) → in_option says x ≡ in_option says y → MayBeAlike says x y
may_be_alike says None None p = both_missing
may_be_alike says None (Some y) p = absurd (subst HasParts (sym p) tt)
may_be_alike says (Some x) None p = absurd (subst HasParts p tt)
may_be_alike says (Some x) (Some y) p = both_given x y (ap (λ t. first_of (says x) (parts_of t)) p)
