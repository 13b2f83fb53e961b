-- Values by their ids, the newest last.
use Rattle.std.proofs.Common.{◌≡◌, ℕ, ◌+◌, ◌<◌, List, [], ◌∷◌, ◌++◌, Option, Some, None, refl, sym, ap, ◌∙◌, take, length, get_or, append_assoc}
use Rattle.std.proofs.lemmas.List.{take_more, append-nil}
use Rattle.spv_meaning.specs.Invocation.{Value, Scalars, PointsAt, Given, scalar_by, as_scalar, scalar_at, scalars_at, extracted}
use Rattle.spv_module.specs.Interface.{number_of}
use Rattle.spv_module.specs.Options.{◌>>=◌}
use Rattle.run_machine.specs.declared.invocation.Named.{Named}
use Rattle.run_machine.specs.Views.{value_by, newest_first}

pub newest_push : (ns : List Named) (n : Named) (vs : List (ℕ × Value)) → newest_first (ns ++ n ∷ []) vs ≡ (n.id, value_by n.value) ∷ newest_first ns vs
newest_push [] n vs = refl
newest_push (m ∷ ns) n vs = newest_push ns n ((m.id, value_by m.value) ∷ vs)

pub newest_more : (ns : List Named) (i : ℕ) (d : Named) → i < length ns → newest_first (take (i + 1) ns) [] ≡ ((get_or ns i d).id, value_by (get_or ns i d).value) ∷ newest_first (take i ns) []
newest_more ns i d h = ap (λ xs. newest_first xs []) (take_more ns i d h) ∙ newest_push (take i ns) (get_or ns i d) []

pub ruleset newest = (newest_push, newest_more)

pub scalar_again : (n : Option ℕ) → scalar_by (as_scalar n) ≡ n
scalar_again (Some n) = refl
scalar_again None = refl

-- scalars in front of others
abbrev pub in_front : List ℕ → Option (List ℕ) → Option (List ℕ)
in_front ns (Some ms) = Some (ns ++ ms)
in_front ns None = None

pub in_front_none : (x : Option (List ℕ)) → in_front [] x ≡ x
in_front_none (Some ms) = refl
in_front_none None = refl

pub in_front_all : (ns : List ℕ) → in_front ns (Some []) ≡ Some ns
in_front_all ns = ap Some (append-nil ns)

pub in_front_more : (ns : List ℕ) (n : ℕ) (x : Option (List ℕ)) → in_front ns (in_front (n ∷ []) x) ≡ in_front (ns ++ n ∷ []) x
in_front_more ns n (Some ms) = ap Some (sym (append_assoc ns (n ∷ []) ms))
in_front_more ns n None = refl

pub scalars_none : (g : Given) (vs : List (ℕ × Value)) (id : ℕ) (ids : List ℕ) → scalar_at g vs id ≡ None → scalars_at g vs (id ∷ ids) ≡ None
scalars_none g vs id ids e = ap (λ x. x >>= λ n. scalars_at g vs ids >>= λ ns. Some (n ∷ ns)) e

then_front : (n : ℕ) (x : Option (List ℕ)) → (x >>= λ ns. Some (n ∷ ns)) ≡ in_front (n ∷ []) x
then_front n (Some ms) = refl
then_front n None = refl

pub scalars_some : (g : Given) (vs : List (ℕ × Value)) (id : ℕ) (ids : List ℕ) (n : ℕ) → scalar_at g vs id ≡ Some n → scalars_at g vs (id ∷ ids) ≡ in_front (n ∷ []) (scalars_at g vs ids)
scalars_some g vs id ids n e = ap (λ x. x >>= λ m. scalars_at g vs ids >>= λ ns. Some (m ∷ ns)) e ∙ then_front n (scalars_at g vs ids)

pub ruleset scalars = (scalar_again, in_front_none, in_front_all, in_front_more, scalars_none, scalars_some)

pub one_word : (ws : List ℕ) (n : ℕ) → number_of (Some ws) ≡ Some n → ws ≡ n ∷ []
one_word [] n e = cc
one_word (m ∷ []) n e = let f : Some m ≡ Some n = e in cc
one_word (m ∷ (k ∷ ws)) n e = cc

pub extracted_none : (v : Option Value) (ws : List ℕ) → number_of (Some ws) ≡ None → extracted v ws ≡ None
extracted_none v [] e = (elim v as (λ x. extracted x [] ≡ None) [ None ↦ refl | Some y ↦ elim y as (λ z. extracted (Some z) [] ≡ None) [ Scalars ns ↦ refl | PointsAt s ↦ refl ] ])
extracted_none v (m ∷ []) e = let f : Some m ≡ None = e in cc
extracted_none v (m ∷ (k ∷ ws)) e = (elim v as (λ x. extracted x (m ∷ (k ∷ ws)) ≡ None) [ None ↦ refl | Some y ↦ elim y as (λ z. extracted (Some z) (m ∷ (k ∷ ws)) ≡ None) [ Scalars ns ↦ refl | PointsAt s ↦ refl ] ])

pub ruleset parts = (scalar_again, one_word, extracted_none)

pub ruleset pointers = (scalar_again, scalar_again)
