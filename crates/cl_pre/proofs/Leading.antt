-- What came out so far, and what is left of a text.
use Rattle.std.proofs.Common.{◌≡◌, ℕ, zero, suc, ◌+◌, ◌-◌, ◌≤◌, ◌<◌, List, [], ◌∷◌, ◌++◌, length, Result, Ok, Err, IsErrAnd, refl, sym, ap, subst, append_assoc, arith}
use Rattle.std.proofs.lemmas.Grind.{common_steps}
use Rattle.std.proofs.lemmas.List.{append-nil}
use Rattle.clv_place.specs.declared.stop.Offence.{Offence}
use Rattle.clv_place.specs.declared.stop.Stop.{Stop}
use Rattle.cl_lexer.specs.declared.token.Token.{Token}
use Rattle.cl_macro.specs.Answers.{AnswersStop, Answers}
use Rattle.cl_macro.specs.Items.{offence}
use Rattle.cl_pre.specs.declared.front.Progress.TheVariants as leads
use Rattle.cl_pre.specs.declared.front.State.{State}
use Rattle.cl_pre.specs.Expansion.{Step, Verdict, with_front, Preprocesses, ended, stopped, gone, given, full, most}
use Rattle.cl_pre.proofs.Steps.{passes}

abbrev pub with_fronts : List Token → Verdict → Verdict
with_fronts ts (Ok us) = Ok (ts ++ us)
with_fronts ts (Err e) = Err e

with_fronts-nil : (v : Verdict) → with_fronts [] v ≡ v
with_fronts-nil (Ok us) = refl
with_fronts-nil (Err e) = refl

with_fronts-front : (ts : List Token) (t : Token) (v : Verdict) → with_fronts ts (with_front t v) ≡ with_fronts (ts ++ t ∷ []) v
with_fronts-front ts t (Ok us) = ap Ok (sym (append_assoc ts (t ∷ []) us))
with_fronts-front ts t (Err e) = refl

-- whatever stands for what is left completes the whole
pub record Leads (whole s : State) (out : List Token) : Type 0 where
  pub by : (v : Verdict) → Preprocesses (most - length out) s v → Preprocesses most whole (with_fronts out v)

pub leads_start : (whole : State) → Leads whole whole []
leads_start whole = record { by = λ v x. subst (Preprocesses most whole) (sym (with_fronts-nil v)) x }

pub leads_gone : (whole s t : State) (out : List Token) → Step s (Ok (leads.Goes t)) → Leads whole s out → Leads whole t out
leads_gone whole s t out step h = record { by = λ v x. h.by v (gone _ s t v step x) }

room_one : (out : List Token) (t : Token) → length out < most → most - length out ≡ suc (most - length (out ++ t ∷ []))
room_one out t less = grind (arith, common_steps)

pub leads_given : (whole s t : State) (out now : List Token) (token : Token) → Step s (Ok (leads.Gives token t)) → length out < most → now ≡ out ++ token ∷ [] → Leads whole s out → Leads whole t now
leads_given whole s t out now token step less is h = subst (Leads whole t) (sym is) (record { by = λ v x. subst (Preprocesses most whole) (with_fronts-front out token v) (h.by (with_front token v) (subst (λ n. Preprocesses n s (with_front token v)) (sym (room_one out token less)) (given _ s t token v _ step x refl))) })

pub leads_end : (whole s : State) (out : List Token) → Step s (Ok leads.Ends) → Leads whole s out → Preprocesses most whole (Ok out)
leads_end whole s out step h = subst (λ l. Preprocesses most whole (Ok l)) (append-nil out) (h.by (Ok []) (ended _ s step))

room_none : (out : List Token) → most ≤ length out → most - length out ≡ 0
room_none out at_least = omega (arith, at_least)

pub leads_full : (whole s t : State) (out : List Token) (token : Token) → Step s (Ok (leads.Gives token t)) → most ≤ length out → Leads whole s out → Preprocesses most whole (Err (offence 124 token.place))
leads_full whole s t out token step at_least h = h.by _ (subst (λ n. Preprocesses n s (Err (offence 124 token.place))) (sym (room_none out at_least)) (full s t token step))

pub leads_stopped : (whole s : State) (out : List Token) (stop : Stop) (r : Result (List Token) Stop) → AnswersStop stop (Step s) → Leads whole s out → IsErrAnd r (λ z. z ≡ stop) → Answers r (Preprocesses most whole)
leads_stopped whole s out stop r x h e = passes (Step s) (Preprocesses most whole) (λ o k. h.by (Err o) (stopped _ s o k)) stop r x e

pub ruleset leading = (leads_start, leads_gone, leads_given, leads_end, leads_full)
