-- What is judged, and that it is judged in one way.
use Rattle.std.proofs.Common.{◌≡◌, ℕ, List, [], ◌∷◌, ◌++◌, length, drop, refl, sym, ap, ◌∙◌, subst, arith}
use Rattle.std.specs.Prelude.{Option, Some, None}
use Rattle.std.proofs.lemmas.List.{append-nil, length-drop}
use Rattle.cl_condition.specs.declared.term.Term.{Term}
use Rattle.cl_condition.specs.declared.term.Judged.{Judged}
use Rattle.cl_condition.specs.declared.term.Judged.TheVariants as judged
use Rattle.cl_condition.specs.declared.outcome.Outcome.{Outcome}
use Rattle.cl_condition.specs.declared.read.Halt.TheVariants.{Malformed}
use Rattle.cl_condition.specs.Values.{Tree, is_unsigned, value_of}
use Rattle.cl_condition.specs.Conditions.{IsCondition, Judges, valued, divides, malformed, OneJudgement}
use Rattle.cl_condition.specs.Readings.{of_value, judged_of, ConditionAt, ConditionStopped}
use Rattle.cl_condition.proofs.Unambiguous.{one_condition}

one_tree : (ts : List Term) (a b : Tree) → IsCondition ts a → IsCondition ts b → a ≡ b
one_tree ts a b h k = (one_condition ts a h ts [] [] b k refl tt tt).1

same_judgement : (ts : List Term) (a b : Judged) → Judges ts a → Judges ts b → a ≡ b
same_judgement ts _ _ (valued t m h e) (valued t2 n k f) =
    let trees = one_tree ts t t2 h k in
    let s : Some m ≡ Some n = sym e ∙ ap value_of trees ∙ f in
    let bits : m ≡ n = cc in
    let signs : is_unsigned t ≡ is_unsigned t2 = ap is_unsigned trees in
    cc
same_judgement ts _ _ (valued t m h e) (divides t2 k f) = absurd (let trees = one_tree ts t t2 h k in let s : Some m ≡ None = sym e ∙ ap value_of trees ∙ f in cc)
same_judgement ts _ _ (valued t m h e) (malformed k) = absurd (k t h)
same_judgement ts _ _ (divides t h e) (valued t2 n k f) = absurd (let trees = one_tree ts t t2 h k in let s : None ≡ Some n = sym e ∙ ap value_of trees ∙ f in cc)
same_judgement ts _ _ (divides t h e) (divides t2 k f) = refl
same_judgement ts _ _ (divides t h e) (malformed k) = absurd (k t h)
same_judgement ts _ _ (malformed h) (valued t n k f) = absurd (h t k)
same_judgement ts _ _ (malformed h) (divides t k f) = absurd (h t k)
same_judgement ts _ _ (malformed h) (malformed k) = refl

pub one_judgement : OneJudgement
one_judgement = record { one = same_judgement }

judged_from : (ts : List Term) (t : Tree) (v : Option ℕ) → IsCondition ts t → value_of t ≡ v → Judges ts (of_value (is_unsigned t) v)
judged_from ts t None h e = divides t h e
judged_from ts t (Some n) h e = valued t n h e

none_left : (ts : List Term) → drop (length ts) ts ≡ []
none_left [] = refl
none_left (t ∷ ts) = none_left ts

pub judged_whole : (ts : List Term) (next : ℕ) (o : Outcome) (j : Judged) → ConditionAt ts 0 next o → next ≡ length ts → j ≡ judged_of o → Judges ts j
judged_whole ts next o j c e f =
    let whole : ts ≡ c.used = c.split ∙ ap (λ z. c.used ++ z) (ap (λ z. drop z ts) e ∙ none_left ts) ∙ append-nil c.used in
    let is : IsCondition ts c.tree = subst (λ z. IsCondition z c.tree) (sym whole) c.is in
    subst (Judges ts) (sym (f ∙ ap judged_of c.comes)) (judged_from ts c.tree (value_of c.tree) is refl)

pub judged_longer : (ts : List Term) (next : ℕ) (o : Outcome) → ConditionAt ts 0 next o → (next ≡ length ts → ⊥) → Judges ts judged.Malformed
judged_longer ts next o c ne =
    malformed (λ tree h.
    let r = one_condition c.used c.tree c.is ts (drop next ts) [] tree h (sym c.split ∙ sym (append-nil ts)) c.ends tt in
    let le = c.within in
    ne (omega (arith, ap length r.0, length-drop next ts)))

pub judged_stopped : (ts : List Term) → ConditionStopped ts 0 Malformed → Judges ts judged.Malformed
judged_stopped ts c = malformed (λ tree h. c.stopped.none ts [] tree (sym (append-nil ts)) h tt)

pub ruleset judging = (judged_whole, judged_longer, judged_stopped)
