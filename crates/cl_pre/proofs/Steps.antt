-- What comes next in a text, and whether a condition holds.
use Rattle.std.proofs.Common.{◌≡◌, Bool, List, [], ◌∷◌, map, Result, Ok, Err, IsErrAnd, refl, sym, subst}
use Rattle.clv_place.specs.declared.place.Place.{Place}
use Rattle.clv_place.specs.declared.stop.Offence.{Offence}
use Rattle.clv_place.specs.declared.stop.Stop.{Stop}
use Rattle.clv_place.specs.declared.stop.Stop.TheVariants.{Out, NoMemory}
use Rattle.cl_condition.specs.Conditions.{Judges}
use Rattle.cl_condition.specs.declared.term.Term.{Term}
use Rattle.cl_condition.specs.declared.term.Judged.{Judged}
use Rattle.cl_macro.specs.Answers.{AnswersStop, Answers}
use Rattle.cl_macro.specs.declared.macros.Entry.{Entry}
use Rattle.cl_macro.specs.declared.item.Item.{Item}
use Rattle.cl_macro.specs.declared.item.Call.{Call}
use Rattle.cl_macro.specs.declared.item.Room.TheVariants as limit
use Rattle.cl_macro.specs.Expansions.{Expands, Replaces}
use Rattle.cl_macro.specs.Items.{offence}
use Rattle.cl_macro.specs.Replacements.{Verdict}
use Rattle.cl_pre.specs.declared.front.Front.TheVariants as front
use Rattle.cl_pre.specs.declared.front.Progress.{Progress}
use Rattle.cl_pre.specs.declared.front.Progress.TheVariants as leads
use Rattle.cl_pre.specs.declared.front.State.{State}
use Rattle.cl_pre.specs.declared.group.Group.{Group}
use Rattle.cl_pre.specs.Conditions.{Holds, stopped, decided, term_of, held}
use Rattle.cl_pre.specs.Expansion.{Step, plain, call, asked, resumed, grouped}
use Rattle.cl_pre.specs.Fronts.{front_of}
use Rattle.cl_pre.specs.Groups.{opened}

-- an offence that passes through
passes_stop : {A B : Type 0} (P : Result A Offence → Type 0) (Q : Result B Offence → Type 0) → ((e : Offence) → P (Err e) → Q (Err e)) → (z : Stop) → AnswersStop z P → AnswersStop z Q
passes_stop P Q on NoMemory k = k
passes_stop P Q on (Out o) k = on o k

pub passes : {A B : Type 0} (P : Result A Offence → Type 0) (Q : Result B Offence → Type 0) → ((e : Offence) → P (Err e) → Q (Err e)) → (stop : Stop) (r : Result B Stop) → AnswersStop stop P → IsErrAnd r (λ s. s ≡ stop) → Answers r Q
passes P Q on stop (Ok x) h e = absurd e
passes P Q on stop (Err s) h e = subst (λ z. AnswersStop z Q) (sym e) (passes_stop P Q on stop h)

-- a condition that is judged
decided_stop : (entries : List Entry) (place : Place) (ts out : List Item) (j : Judged) (stop : Stop) → AnswersStop stop (λ v. v ≡ held place j) → Expands entries (limit.Tokens 256 (offence 121 place)) ts (Ok out) → Judges (map term_of out) j → AnswersStop stop (Holds entries place ts)
decided_stop entries place ts out j NoMemory h x g = h
decided_stop entries place ts out j (Out e) h x g = decided out j (Err e) x g h

decided_with : (entries : List Entry) (place : Place) (ts out : List Item) (j : Judged) (r : Result Bool Stop) → Answers r (λ v. v ≡ held place j) → Expands entries (limit.Tokens 256 (offence 121 place)) ts (Ok out) → Judges (map term_of out) j → Answers r (Holds entries place ts)
decided_with entries place ts out j (Ok b) h x g = decided out j (Ok b) x g h
decided_with entries place ts out j (Err stop) h x g = decided_stop entries place ts out j stop h x g

pub condition_decided : (entries : List Entry) (place : Place) (ts out : List Item) (terms : List Term) (j : Judged) (r : Result Bool Stop) → Answers r (λ v. v ≡ held place j) → Expands entries (limit.Tokens 256 (offence 121 place)) ts (Ok out) → terms ≡ map term_of out → Judges terms j → Answers r (Holds entries place ts)
condition_decided entries place ts out terms j r h x is g = decided_with entries place ts out j r h x (subst (λ l. Judges l j) is g)

pub condition_stopped : (entries : List Entry) (place : Place) (ts : List Item) (stop : Stop) (r : Result Bool Stop) → AnswersStop stop (Expands entries (limit.Tokens 256 (offence 121 place)) ts) → IsErrAnd r (λ s. s ≡ stop) → Answers r (Holds entries place ts)
condition_stopped entries place ts stop r h e = passes (Expands entries (limit.Tokens 256 (offence 121 place)) ts) (Holds entries place ts) (λ o x. stopped o x) stop r h e

pub ruleset conditions = (condition_decided)

pub step_plain : (s : State) (v : Result Progress Offence) → front.Plain v ≡ front_of s → Step s v
step_plain s v e = plain s v (sym e)

pub step_called : (s : State) (entries : List Entry) (groups : List Group) (c : Call) (args : List (List Item)) (next : List Item) → front.Calls entries groups c args ≡ front_of s → Replaces entries c args (Ok next) → Step s (Ok (leads.Goes (record { table = entries; groups = groups; input = next })))
step_called s entries groups c args next e h = call s entries groups c args (Ok next) _ (sym e) h refl

pub step_asked : (s t : State) (place : Place) (items ts : List Item) (b : Bool) (now : List Group) → front.Asks place items t ≡ front_of s → ts ≡ items → Holds t.table place ts (Ok b) → now ≡ opened b ∷ t.groups → Step s (Ok (leads.Goes (record { table = t.table; groups = now; input = t.input })))
step_asked s t place items ts b now e is h top = subst (λ g. Step s (Ok (leads.Goes (record { table = t.table; groups = g; input = t.input })))) (sym top) (asked s t place items (Ok b) _ (sym e) (subst (λ l. Holds t.table place l (Ok b)) is h) refl)

pub call_stopped : (s : State) (entries : List Entry) (groups : List Group) (c : Call) (args : List (List Item)) (stop : Stop) (r : Result Progress Stop) → front.Calls entries groups c args ≡ front_of s → AnswersStop stop (Replaces entries c args) → IsErrAnd r (λ z. z ≡ stop) → Answers r (Step s)
call_stopped s entries groups c args stop r is h e = passes (Replaces entries c args) (Step s) (λ o x. call s entries groups c args (Err o) (Err o) (sym is) x refl) stop r h e

pub ask_stopped : (s t : State) (place : Place) (items ts : List Item) (stop : Stop) (r : Result Progress Stop) → front.Asks place items t ≡ front_of s → ts ≡ items → AnswersStop stop (Holds t.table place ts) → IsErrAnd r (λ z. z ≡ stop) → Answers r (Step s)
ask_stopped s t place items ts stop r is same h e = passes (Holds t.table place ts) (Step s) (λ o x. asked s t place items (Err o) (Err o) (sym is) (subst (λ l. Holds t.table place l (Err o)) same x) refl) stop r h e

pub ruleset steps = (step_plain, step_called, step_asked)
