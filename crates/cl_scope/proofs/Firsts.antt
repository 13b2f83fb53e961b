-- Functions, with the first of each name indexed: one more, and what is found.
use Rattle.std.proofs.Common.{◌≡◌, ℕ, suc, Bool, true, false, Option, Some, None, List, [], ◌∷◌, ◌++◌, length, slice_get, refl, sym, ap, ◌∙◌, subst}
use Rattle.std.specs.Prelude.{bytes_eq, if◌then◌else◌, unwrap_or}
use Rattle.std.proofs.lemmas.Slice.Eq.{bytes_eq-Decides}
use Rattle.cl_scope.specs.declared.places.Places.{Places}
use Rattle.cl_scope.specs.declared.scope.Signature.{Signature}
use Rattle.cl_scope.specs.Names.{function_in}
use Rattle.cl_scope.specs.Places.{place_of, one_later, first_at, AreFirst, AreSame, IsMoved}
use Rattle.cl_scope.proofs.Choice.{both}

-- ---- what is found

abbrev pub at_place : Option ℕ → List Signature → Option Signature
at_place None functions = None
at_place (Some at) functions = slice_get functions at

later_place : (o : Option ℕ) (s : Signature) (ss : List Signature) → at_place o ss ≡ at_place (one_later o) (s ∷ ss)
later_place None s ss = refl
later_place (Some at) s ss = refl

first_is : (name : List ℕ) (ss : List Signature) → function_in name ss ≡ at_place (first_at name ss) ss
first_is name [] = refl
first_is name (s ∷ ss) = by (bytes_eq name s.name) (first_is name ss)
  where
    by : (b : Bool) → function_in name ss ≡ at_place (first_at name ss) ss → (if b then Some s else function_in name ss) ≡ at_place (if b then Some 0 else one_later (first_at name ss)) (s ∷ ss)
    by true rest = refl
    by false rest = rest ∙ later_place (first_at name ss) s ss

pub first_found : (name : List ℕ) (functions : List Signature) (places : Places) (place : Option ℕ) → AreFirst functions places → place ≡ place_of places name → at_place place functions ≡ function_in name functions
first_found name functions places place firsts is = ap (λ p. at_place p functions) (is ∙ firsts.each name) ∙ sym (first_is name functions)

-- ---- one more

-- the place of the first of a name, where one more of that name stands last
abbrev first_or : Option ℕ → ℕ → Option ℕ
first_or o n = Some (unwrap_or o n)

later_or : (o : Option ℕ) (n : ℕ) → one_later (first_or o n) ≡ first_or (one_later o) (suc n)
later_or None n = refl
later_or (Some at) n = refl

later_choice : (b : Bool) (o p : Option ℕ) → one_later (if b then o else p) ≡ (if b then one_later o else one_later p)
later_choice true o p = refl
later_choice false o p = refl

first_more : (name : List ℕ) (ss : List Signature) (s : Signature) → first_at name (ss ++ s ∷ []) ≡ (if bytes_eq name s.name then first_or (first_at name ss) (length ss) else first_at name ss)
first_more name [] s = refl
first_more name (f ∷ ss) s = by (bytes_eq name f.name) (first_more name ss s)
  where
    rest : first_at name (ss ++ s ∷ []) ≡ (if bytes_eq name s.name then first_or (first_at name ss) (length ss) else first_at name ss) → one_later (first_at name (ss ++ s ∷ [])) ≡ (if bytes_eq name s.name then first_or (one_later (first_at name ss)) (suc (length ss)) else one_later (first_at name ss))
    rest e = ap one_later e ∙ later_choice (bytes_eq name s.name) (first_or (first_at name ss) (length ss)) (first_at name ss) ∙ both (bytes_eq name s.name) (one_later (first_or (first_at name ss) (length ss))) (one_later (first_at name ss)) (first_or (one_later (first_at name ss)) (suc (length ss))) (one_later (first_at name ss)) (later_or (first_at name ss) (length ss)) refl

    here : (c : Bool) → Some 0 ≡ (if c then first_or (Some 0) (suc (length ss)) else Some 0)
    here true = refl
    here false = refl

    by : (b : Bool) → first_at name (ss ++ s ∷ []) ≡ (if bytes_eq name s.name then first_or (first_at name ss) (length ss) else first_at name ss) → (if b then Some 0 else one_later (first_at name (ss ++ s ∷ []))) ≡ (if bytes_eq name s.name then first_or (if b then Some 0 else one_later (first_at name ss)) (suc (length ss)) else (if b then Some 0 else one_later (first_at name ss)))
    by true e = here (bytes_eq name s.name)
    by false e = rest e

one_more : (functions : List Signature) (function : Signature) (old middle places : Places) → AreFirst functions old → AreSame old middle → IsMoved middle places function.name (first_or (place_of middle function.name) (length functions)) → AreFirst (functions ++ function ∷ []) places
one_more functions function old middle places firsts same moved = record { each = λ name. moved name ∙ by name (bytes_eq name function.name) refl ∙ sym (first_more name functions function) }
  where
    stands : (name : List ℕ) → place_of middle name ≡ first_at name functions
    stands name = same name ∙ firsts.each name

    by : (name : List ℕ) (b : Bool) → bytes_eq name function.name ≡ b → (if b then first_or (place_of middle function.name) (length functions) else place_of middle name) ≡ (if b then first_or (first_at name functions) (length functions) else first_at name functions)
    by name true e = ap (λ o. first_or o (length functions)) (stands function.name ∙ ap (λ n. first_at n functions) (sym ((bytes_eq-Decides name function.name).0 e)))
    by name false e = stands name

pub function_pushed : (functions now : List Signature) (function : Signature) (old middle new : Places) (name : List ℕ) (at first : ℕ) → AreFirst functions old → now ≡ functions ++ function ∷ [] → AreSame old middle → name ≡ function.name → at ≡ length functions → first ≡ unwrap_or (place_of middle function.name) at → IsMoved middle new name (Some first) → AreFirst now new
function_pushed functions now function old middle new name at first firsts is same named last one moved =
    let named_moved : IsMoved middle new function.name (Some first) = subst (λ n. IsMoved middle new n (Some first)) named moved in
    let first_moved : IsMoved middle new function.name (first_or (place_of middle function.name) (length functions)) = subst (λ k. IsMoved middle new function.name (Some k)) (one ∙ ap (unwrap_or (place_of middle function.name)) last) named_moved in
    subst (λ l. AreFirst l new) (sym is) (one_more functions function old middle new firsts same first_moved)
