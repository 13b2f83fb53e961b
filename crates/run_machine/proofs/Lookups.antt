-- Decorations with one number.
use Rattle.std.proofs.Common.{◌≡◌, ℕ, false, nat_eq, List, [], ◌∷◌, Option, Some, None, refl, ap}
use Rattle.spv_module.specs.Interface.{is_number, number_of}
use Rattle.spv_meaning.specs.Start.{Specialised}
use Rattle.spv_meaning.specs.Invocation.{specialised_to}

pub number_is : (d : Option (List ℕ)) (n : ℕ) → number_of d ≡ Some n → d ≡ Some (n ∷ [])
number_is None n e = cc
number_is (Some []) n e = cc
number_is (Some (m ∷ [])) n e = let f : Some m ≡ Some n = e in cc
number_is (Some (m ∷ (k ∷ ms))) n e = cc

pub specialised_none : (ss : List Specialised) (d : Option (List ℕ)) → number_of d ≡ None → specialised_to ss d ≡ None
specialised_none [] d e = refl
specialised_none (s ∷ ss) None e = refl
specialised_none (s ∷ ss) (Some []) e = refl
specialised_none (s ∷ ss) (Some (m ∷ [])) e = let f : Some m ≡ None = e in cc
specialised_none (s ∷ ss) (Some (m ∷ (k ∷ ms))) e = refl

pub specialised_some : (ss : List Specialised) (d : Option (List ℕ)) (n : ℕ) → number_of d ≡ Some n → specialised_to ss d ≡ specialised_to ss (Some (n ∷ []))
specialised_some ss d n e = ap (specialised_to ss) (number_is d n e)

pub ruleset specialised = (specialised_none, specialised_some)

pub is_number_some : (d : Option (List ℕ)) (n m : ℕ) → number_of d ≡ Some n → is_number d m ≡ nat_eq n m
is_number_some d n m e = ap (λ x. is_number x m) (number_is d n e)

pub is_number_none : (d : Option (List ℕ)) (m : ℕ) → number_of d ≡ None → is_number d m ≡ false
is_number_none None m e = refl
is_number_none (Some []) m e = refl
is_number_none (Some (k ∷ [])) m e = let f : Some k ≡ None = e in cc
is_number_none (Some (k ∷ (j ∷ ks))) m e = refl

pub ruleset built_in = (is_number_some, is_number_none)
