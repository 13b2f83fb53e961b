-- Arguments that are expanded one after the other.
use Rattle.std.proofs.Common.{◌≡◌, List, [], ◌∷◌, ◌++◌, Result, Ok, Err, IsErrAnd, refl, sym, subst}
use Rattle.std.proofs.lemmas.List.{append-nil}
use Rattle.clv_place.specs.declared.stop.Offence.{Offence}
use Rattle.clv_place.specs.declared.stop.Stop.{Stop}
use Rattle.clv_place.specs.declared.stop.Stop.TheVariants.{Out, NoMemory}
use Rattle.cl_macro.specs.Answers.{AnswersStop, Answers}
use Rattle.cl_macro.specs.declared.macros.Entry.{Entry}
use Rattle.cl_macro.specs.declared.item.Item.{Item}
use Rattle.cl_macro.specs.declared.item.Call.{Call}
use Rattle.cl_macro.specs.declared.item.Room.TheVariants as limit
use Rattle.cl_macro.specs.Replacements.{Verdict}
use Rattle.cl_macro.specs.Expansions.{ArgumentsVerdict, with_argument, call_becomes, before, Expands, EachExpands, none, fails, more, Replaces, within, put_in}
use Rattle.cl_macro.proofs.Leading.{with_arguments, with_arguments-nil, with_arguments-one}

-- whatever stands for the arguments that are left completes the whole
pub record LeadsEach (entries : List Entry) (args left done : List (List Item)) : Type 0 where
  pub by : (v : ArgumentsVerdict) → EachExpands entries left v → EachExpands entries args (with_arguments done v)

pub each_start : (entries : List Entry) (args : List (List Item)) → LeadsEach entries args args []
each_start entries args = record { by = λ v h. subst (EachExpands entries args) (sym (with_arguments-nil v)) h }

pub each_on : (entries : List Entry) (args left rest done now : List (List Item)) (a xs : List Item) → left ≡ a ∷ rest → Expands entries limit.Endless a (Ok xs) → now ≡ done ++ xs ∷ [] → LeadsEach entries args left done → LeadsEach entries args rest now
each_on entries args left rest done now a xs is x then_done h = record { by = λ v each. subst (λ l. EachExpands entries args (with_arguments l v)) (sym then_done) (subst (EachExpands entries args) (with_arguments-one done xs v) (h.by (with_argument xs v) (subst (λ l. EachExpands entries l (with_argument xs v)) (sym is) (more a xs rest v _ x each refl)))) }

each_fail : (entries : List Entry) (args left rest done : List (List Item)) (a : List Item) (e : Offence) → left ≡ a ∷ rest → Expands entries limit.Endless a (Err e) → LeadsEach entries args left done → EachExpands entries args (Err e)
each_fail entries args left rest done a e is x h = h.by (Err e) (subst (λ l. EachExpands entries l (Err e)) (sym is) (fails a rest e x))

each_stop : (entries : List Entry) (args left rest done : List (List Item)) (a input : List Item) (stop : Stop) → left ≡ a ∷ rest → input ≡ a → AnswersStop stop (Expands entries limit.Endless input) → LeadsEach entries args left done → AnswersStop stop (EachExpands entries args)
each_stop entries args left rest done a input NoMemory is same x h = x
each_stop entries args left rest done a input (Out e) is same x h = each_fail entries args left rest done a e is (subst (λ l. Expands entries limit.Endless l (Err e)) same x) h

pub each_answers : (entries : List Entry) (args left rest done : List (List Item)) (a input : List Item) (stop : Stop) (r : Result (List (List Item)) Stop) → left ≡ a ∷ rest → input ≡ a → AnswersStop stop (Expands entries limit.Endless input) → LeadsEach entries args left done → IsErrAnd r (λ s. s ≡ stop) → Answers r (EachExpands entries args)
each_answers entries args left rest done a input stop (Ok xs) is same x h e = absurd e
each_answers entries args left rest done a input stop (Err s) is same x h e = subst (λ z. AnswersStop z (EachExpands entries args)) (sym e) (each_stop entries args left rest done a input stop is same x h)

pub each_end : (entries : List Entry) (args left done : List (List Item)) → left ≡ [] → LeadsEach entries args left done → EachExpands entries args (Ok done)
each_end entries args left done is h = subst (λ l. EachExpands entries args (Ok l)) (append-nil done) (h.by (Ok []) (subst (λ l. EachExpands entries l (Ok [])) (sym is) none))

pub ruleset each_steps = (each_start, each_on, each_end)

pub call_inside : (entries : List Entry) (c : Call) (args : List (List Item)) (e : Offence) → EachExpands entries args (Err e) → Replaces entries c args (Err e)
call_inside entries c args e h = within c args e h

pub call_whole : (entries : List Entry) (c : Call) (args xs : List (List Item)) (v : Verdict) → EachExpands entries args (Ok xs) → v ≡ before c.beyond (call_becomes entries c xs) → Replaces entries c args v
call_whole entries c args xs v h is = put_in c args xs v h is

pub ruleset call_steps = (call_inside, call_whole)
