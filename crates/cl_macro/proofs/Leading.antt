-- What came out so far, and what stands for the rest.
use Rattle.std.proofs.Common.{◌≡◌, ℕ, zero, suc, ◌+◌, ◌-◌, length, Bool, true, false, Option, Some, None, arith, List, [], ◌∷◌, ◌++◌, Ok, Err, refl, sym, ap, subst, append_assoc}
use Rattle.std.specs.Prelude.{nat_le, if◌then◌else◌}
use Rattle.std.proofs.lemmas.Grind.{common_steps}
use Rattle.std.proofs.lemmas.List.{append-nil}
use Rattle.clv_place.specs.declared.stop.Offence.{Offence}
use Rattle.cl_macro.specs.declared.macros.Entry.{Entry}
use Rattle.cl_macro.specs.declared.item.Item.{Item}
use Rattle.cl_macro.specs.declared.item.Call.{Call}
use Rattle.cl_macro.specs.declared.item.Room.{Room}
use Rattle.cl_macro.specs.declared.item.Room.TheVariants as limit
use Rattle.cl_macro.specs.declared.item.First.{First}
use Rattle.cl_macro.specs.declared.item.First.TheVariants as stands
use Rattle.cl_macro.specs.declared.expansion.Frame.{Frame}
use Rattle.cl_macro.specs.declared.expansion.State.{State}
use Rattle.cl_macro.specs.declared.expansion.Progress.{Progress}
use Rattle.cl_macro.specs.declared.expansion.Progress.TheVariants.{Goes, Ends, Fails}
use Rattle.cl_macro.specs.Replacements.{Verdict}
use Rattle.cl_macro.specs.Expansions.{ArgumentsVerdict, with_front, with_argument, call_becomes, before, room_behind, Expands, ended, kept, full, replaced, bad, called, stopped, EachExpands, none, fails, more, Replaces, within, put_in}
use Rattle.cl_macro.specs.Firsts.{first}
use Rattle.cl_macro.specs.Machine.{filled, opened_by, popped, room_less, room_of, over_by, over, kept_by, step_by, step}

abbrev pub with_fronts : List Item → Verdict → Verdict
with_fronts ts (Ok us) = Ok (ts ++ us)
with_fronts ts (Err e) = Err e

with_fronts-nil : (r : Verdict) → with_fronts [] r ≡ r
with_fronts-nil (Ok us) = refl
with_fronts-nil (Err e) = refl

with_fronts-front : (ts : List Item) (t : Item) (r : Verdict) → with_fronts ts (with_front t r) ≡ with_fronts (ts ++ t ∷ []) r
with_fronts-front ts t (Ok us) = ap Ok (sym (append_assoc ts (t ∷ []) us))
with_fronts-front ts t (Err e) = refl

abbrev pub with_arguments : List (List Item) → ArgumentsVerdict → ArgumentsVerdict
with_arguments done (Ok bs) = Ok (done ++ bs)
with_arguments done (Err e) = Err e

pub with_arguments-nil : (v : ArgumentsVerdict) → with_arguments [] v ≡ v
with_arguments-nil (Ok us) = refl
with_arguments-nil (Err e) = refl

pub with_arguments-one : (done : List (List Item)) (a : List Item) (v : ArgumentsVerdict) → with_arguments done (with_argument a v) ≡ with_arguments (done ++ a ∷ []) v
with_arguments-one done a (Ok us) = ap Ok (sym (append_assoc done (a ∷ []) us))
with_arguments-one done a (Err e) = refl

-- what is read on behind a call, by the verdict on its arguments
abbrev pub called_with : List Entry → Call → ArgumentsVerdict → Verdict
called_with entries c (Ok xs) = before c.beyond (call_becomes entries c xs)
called_with entries c (Err e) = Err e

-- the verdict where this is read on
abbrev pub Resumes : List Entry → Room → Verdict → Verdict → Type 0
Resumes entries room (Ok next) r = Expands entries room next r
Resumes entries room (Err e) r = r ≡ Err e

-- where the tokens within the open calls have a verdict, the whole has one
abbrev mutual
  pub Settles : Room → List Entry → List Item → List Frame → Verdict → Type 0
  Settles room entries whole [] v = Expands entries room whole v
  Settles room entries whole (f ∷ fs) (Err e) = Settles room entries whole fs (Err e)
  Settles room entries whole (f ∷ fs) (Ok xs) = (v : ArgumentsVerdict) (r : Verdict) → EachExpands entries f.left v → Resumes entries (room_of room fs f.out) (called_with entries f.call (with_arguments (f.done ++ xs ∷ []) v)) r → Settles room entries whole fs (with_fronts f.out r)

-- whatever stands for the rest of the present input completes the whole
pub record Leads (room : Room) (entries : List Entry) (whole : List Item) (s : State) : Type 0 where
  pub by : (r : Verdict) → Expands entries (room_of room s.frames s.out) s.input r → Settles room entries whole s.frames (with_fronts s.out r)

-- whatever stands for the arguments that are left does
abbrev pub Opens : Room → List Entry → List Item → List Frame → Frame → Type 0
Opens room entries whole fs f = (v : ArgumentsVerdict) (r : Verdict) → EachExpands entries f.left v → Resumes entries (room_of room fs f.out) (called_with entries f.call (with_arguments f.done v)) r → Settles room entries whole fs (with_fronts f.out r)

settles_fail : (room : Room) (entries : List Entry) (whole : List Item) (fs : List Frame) (e : Offence) → Settles room entries whole fs (Err e) → Expands entries room whole (Err e)
settles_fail room entries whole [] e h = h
settles_fail room entries whole (f ∷ fs) e h = settles_fail room entries whole fs e h

-- what a step says
abbrev pub Tells : Room → List Entry → List Item → Progress → Type 0
Tells room entries whole (Goes s) = Leads room entries whole s
Tells room entries whole (Ends out) = Expands entries room whole (Ok out)
Tells room entries whole (Fails e) = Expands entries room whole (Err e)

filled_tells : (room : Room) (entries : List Entry) (whole : List Item) (fs : List Frame) (f : Frame) (r : Verdict) → f.left ≡ [] → before f.call.beyond (call_becomes entries f.call f.done) ≡ r → Opens room entries whole fs f → Tells room entries whole (filled fs f.out r)
filled_tells room entries whole fs f (Ok next) last e h = record { by = λ r x. h (Ok []) r (subst (λ l. EachExpands entries l (Ok [])) (sym last) none) (subst (λ l. Resumes entries (room_of room fs f.out) (before f.call.beyond (call_becomes entries f.call l)) r) (sym (append-nil f.done)) (subst (λ w. Resumes entries (room_of room fs f.out) w r) (sym e) x)) }
filled_tells room entries whole fs f (Err o) last e h = settles_fail room entries whole fs o (h (Ok []) (Err o) (subst (λ l. EachExpands entries l (Ok [])) (sym last) none) (subst (λ l. Resumes entries (room_of room fs f.out) (before f.call.beyond (call_becomes entries f.call l)) (Err o)) (sym (append-nil f.done)) (subst (λ w. Resumes entries (room_of room fs f.out) w (Err o)) (sym e) refl)))

arg_settles : (room : Room) (entries : List Entry) (whole a : List Item) (left : List (List Item)) (fs : List Frame) (f : Frame) (r : Verdict) → f.left ≡ a ∷ left → Opens room entries whole fs f → Expands entries limit.Endless a r → Settles room entries whole (record { call = f.call; left = left; done = f.done; out = f.out } ∷ fs) r
arg_settles room entries whole a left fs f (Ok xs) is h x = λ v r each gives. h (with_argument xs v) r (subst (λ l. EachExpands entries l (with_argument xs v)) (sym is) (more a xs left v _ x each refl)) (subst (λ w. Resumes entries (room_of room fs f.out) (called_with entries f.call w) r) (sym (with_arguments-one f.done xs v)) gives)
arg_settles room entries whole a left fs f (Err e) is h x = h (Err e) (Err e) (subst (λ l. EachExpands entries l (Err e)) (sym is) (fails a left e x)) refl

opened_tells : (room : Room) (entries : List Entry) (whole : List Item) (fs : List Frame) (f : Frame) (left : List (List Item)) → f.left ≡ left → Opens room entries whole fs f → Tells room entries whole (opened_by entries fs f left)
opened_tells room entries whole fs f [] is h = filled_tells room entries whole fs f _ is refl h
opened_tells room entries whole fs f (a ∷ left) is h = record { by = λ r x. subst (Settles room entries whole (record { call = f.call; left = left; done = f.done; out = f.out } ∷ fs)) (sym (with_fronts-nil r)) (arg_settles room entries whole a left fs f r is h x) }

popped_tells : (room : Room) (entries : List Entry) (whole out : List Item) (fs : List Frame) → Settles room entries whole fs (Ok out) → Tells room entries whole (popped entries out fs)
popped_tells room entries whole out [] h = h
popped_tells room entries whole out (f ∷ fs) h = opened_tells room entries whole fs (record { call = f.call; left = f.left; done = f.done ++ out ∷ []; out = f.out }) f.left refl h

-- one more token
less_one : (most n m k : ℕ) (full_offence : Offence) → most - n ≡ k → nat_le most n ≡ false → m ≡ n + 1 → room_behind (limit.Tokens k full_offence) ≡ Some (limit.Tokens (most - m) full_offence)
less_one most n m zero o is e at = absurd (grind (arith, common_steps))
less_one most n m (suc k) o is e at = ap (λ z. Some (limit.Tokens z o)) (let g : k ≡ most - m = grind (arith, common_steps) in g)

room_counted : (most n m : ℕ) (o : Offence) (b : Bool) → nat_le most n ≡ b → (if b then Some o else None) ≡ None → m ≡ n + 1 → room_behind (limit.Tokens (most - n) o) ≡ Some (limit.Tokens (most - m) o)
room_counted most n m o true le e is = absurd (cc (e))
room_counted most n m o false le e is = less_one most n m _ o refl le is

full_counted : (entries : List Entry) (most n : ℕ) (ts rest : List Item) (t : Item) (full_offence o : Offence) (b : Bool) → nat_le most n ≡ b → (if b then Some full_offence else None) ≡ Some o → first entries ts ≡ stands.Kept t rest → Expands entries (limit.Tokens (most - n) full_offence) ts (Err o)
full_counted entries most n ts rest t p o true le e is = let same : p ≡ o = cc (e) in let none_left : 0 ≡ most - n = grind (arith, common_steps) in subst (λ k. Expands entries (limit.Tokens k p) ts (Err o)) none_left (subst (λ q. Expands entries (limit.Tokens 0 p) ts (Err q)) same (full p ts rest t is))
full_counted entries most n ts rest t p o false le e is = absurd (cc (e))

no_room : (room : Room) (entries : List Entry) (n : ℕ) (ts rest : List Item) (t : Item) (o : Offence) → over_by room n ≡ Some o → first entries ts ≡ stands.Kept t rest → Expands entries (room_less room n) ts (Err o)
no_room limit.Endless entries n ts rest t o e is = absurd (let g : None ≡ Some o = e in cc)
no_room (limit.Tokens most p) entries n ts rest t o e is = full_counted entries most n ts rest t p o (nat_le most n) refl e is

room_one : (room : Room) (n m : ℕ) → over_by room n ≡ None → m ≡ n + 1 → room_behind (room_less room n) ≡ Some (room_less room m)
room_one limit.Endless n m e is = refl
room_one (limit.Tokens most o) n m e is = room_counted most n m o (nat_le most n) refl e is

length_one : (out : List Item) (t : Item) → length (out ++ t ∷ []) ≡ length out + 1
length_one out t = grind (arith, common_steps)

kept_tells : (room : Room) (entries : List Entry) (whole : List Item) (frames : List Frame) (out input rest : List Item) (t : Item) (o : Option Offence) → over room frames out ≡ o → first entries input ≡ stands.Kept t rest → Leads room entries whole (record { frames = frames; out = out; input = input }) → Tells room entries whole (kept_by frames out t rest o)
kept_tells room entries whole [] out input rest t (Some full_offence) is e h = settles_fail room entries whole [] _ (h.by _ (no_room room entries (length out) input rest t full_offence is e))
kept_tells room entries whole (f ∷ fs) out input rest t (Some full_offence) is e h = absurd (let g : None ≡ Some full_offence = is in cc)
kept_tells room entries whole [] out input rest t None is e h = record { by = λ r x. subst (Settles room entries whole []) (with_fronts-front out t r) (h.by (with_front t r) (kept _ _ input rest t r _ e (room_one room (length out) (length (out ++ t ∷ [])) is (length_one out t)) x refl)) }
kept_tells room entries whole (f ∷ fs) out input rest t None is e h = record { by = λ r x. subst (Settles room entries whole (f ∷ fs)) (with_fronts-front out t r) (h.by (with_front t r) (kept _ limit.Endless input rest t r _ e refl x refl)) }

whole_resumes : (entries : List Entry) (room : Room) (ts : List Item) (c : Call) (args xs : List (List Item)) (w r : Verdict) → first entries ts ≡ stands.Calls c args → EachExpands entries args (Ok xs) → w ≡ before c.beyond (call_becomes entries c xs) → Resumes entries room w r → Expands entries room ts r
whole_resumes entries room ts c args xs (Ok next) r e each is gives = called room ts next c args r e (put_in c args xs (Ok next) each is) gives
whole_resumes entries room ts c args xs (Err o) r e each is gives = subst (Expands entries room ts) (sym gives) (stopped room ts c args o e (put_in c args xs (Err o) each is))

called_resumes : (entries : List Entry) (room : Room) (ts : List Item) (c : Call) (args : List (List Item)) (v : ArgumentsVerdict) (r : Verdict) → first entries ts ≡ stands.Calls c args → EachExpands entries args v → Resumes entries room (called_with entries c v) r → Expands entries room ts r
called_resumes entries room ts c args (Ok xs) r e each gives = whole_resumes entries room ts c args xs (before c.beyond (call_becomes entries c xs)) r e each refl gives
called_resumes entries room ts c args (Err o) r e each gives = subst (Expands entries room ts) (sym gives) (stopped room ts c args o e (within c args o each))

step_by_tells : (room : Room) (entries : List Entry) (whole : List Item) (s : State) (f : First) → first entries s.input ≡ f → Leads room entries whole s → Tells room entries whole (step_by room entries s.frames s.out f)
step_by_tells room entries whole s stands.End e h = popped_tells room entries whole s.out s.frames (subst (λ l. Settles room entries whole s.frames (Ok l)) (append-nil s.out) (h.by (Ok []) (ended _ s.input e)))
step_by_tells room entries whole s (stands.Kept t rest) e h = kept_tells room entries whole s.frames s.out s.input rest t _ refl e h
step_by_tells room entries whole s (stands.Becomes rest) e h = record { by = λ r x. h.by r (replaced _ s.input rest r e x) }
step_by_tells room entries whole s (stands.Bad o) e h = settles_fail room entries whole s.frames o (h.by (Err o) (bad _ s.input o e))
step_by_tells room entries whole s (stands.Calls c args) e h = opened_tells room entries whole s.frames (record { call = c; left = args; done = []; out = s.out }) args refl (λ v r each gives. h.by r (called_resumes entries _ s.input c args v r e each (subst (λ w. Resumes entries (room_of room s.frames s.out) (called_with entries c w) r) (with_arguments-nil v) gives)))

step_tells : (room : Room) (entries : List Entry) (whole : List Item) (s : State) (p : Progress) → p ≡ step room entries s → Leads room entries whole s → Tells room entries whole p
step_tells room entries whole s p e h = subst (Tells room entries whole) (sym e) (step_by_tells room entries whole s _ refl h)

room_all : (room : Room) → room_less room 0 ≡ room
room_all limit.Endless = refl
room_all (limit.Tokens most o) = ap (λ n. limit.Tokens n o) (omega arith)

pub leads_start : (room : Room) (entries : List Entry) (whole : List Item) → Leads room entries whole (record { frames = []; out = []; input = whole })
leads_start room entries whole = record { by = λ r x. subst (Expands entries room whole) (sym (with_fronts-nil r)) (subst (λ n. Expands entries n whole r) (room_all room) x) }

pub leads_on : (room : Room) (entries : List Entry) (whole : List Item) (s next : State) → Goes next ≡ step room entries s → Leads room entries whole s → Leads room entries whole next
leads_on room entries whole s next e h = step_tells room entries whole s (Goes next) e h

pub leads_end : (room : Room) (entries : List Entry) (whole out : List Item) (s : State) → Ends out ≡ step room entries s → Leads room entries whole s → Expands entries room whole (Ok out)
leads_end room entries whole out s e h = step_tells room entries whole s (Ends out) e h

pub leads_fail : (room : Room) (entries : List Entry) (whole : List Item) (s : State) (o : Offence) → Fails o ≡ step room entries s → Leads room entries whole s → Expands entries room whole (Err o)
leads_fail room entries whole s o e h = step_tells room entries whole s (Fails o) e h

pub ruleset leading = (leads_start, leads_on, leads_end, leads_fail)
