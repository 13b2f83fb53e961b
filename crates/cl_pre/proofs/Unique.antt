-- A text has one verdict.
use Rattle.std.proofs.Common.{◌≡◌, ℕ, zero, suc, Bool, List, [], ◌∷◌, map, Result, Ok, Err, refl, sym, ap, ◌∙◌, subst}
use Rattle.clv_place.specs.declared.place.Place.{Place}
use Rattle.clv_place.specs.declared.stop.Offence.{Offence}
use Rattle.cl_condition.specs.Conditions.{Judges, OneJudgement}
use Rattle.cl_condition.specs.declared.term.Judged.{Judged}
use Rattle.cl_lexer.specs.declared.token.Token.{Token}
use Rattle.cl_lexer.specs.declared.token.Tokens.{Tokens}
use Rattle.cl_macro.specs.declared.macros.Entry.{Entry}
use Rattle.cl_macro.specs.declared.item.Item.{Item}
use Rattle.cl_macro.specs.declared.item.Call.{Call}
use Rattle.cl_macro.specs.declared.item.Room.TheVariants as limit
use Rattle.cl_macro.specs.Expansions.{Expands, Replaces, OneReplacement}
use Rattle.cl_macro.specs.Expansions as lists
use Rattle.cl_macro.specs.Items.{offence}
use Rattle.cl_pre.specs.declared.front.Front.{Front}
use Rattle.cl_pre.specs.declared.front.Front.TheVariants as front
use Rattle.cl_pre.specs.declared.front.Progress.{Progress}
use Rattle.cl_pre.specs.declared.front.Progress.TheVariants as leads
use Rattle.cl_pre.specs.declared.front.State.{State}
use Rattle.cl_pre.specs.declared.group.Group.{Group}
use Rattle.cl_pre.specs.Conditions.{Holds, stopped, decided, term_of, held}
use Rattle.cl_pre.specs.Expansion.{Step, plain, call, asked, resumed, grouped, Verdict, with_front, Preprocesses, ended, gone, given, full, settled, Expansion, whole, OneVerdict}
use Rattle.cl_pre.specs.Expansion as texts
use Rattle.cl_pre.specs.Fronts.{front_of}
use Rattle.cl_pre.specs.Unended.{unended_from}

module _ (one_list : lists.OneVerdict) (one_call : OneReplacement) (one_judgement : OneJudgement) where
  one_condition : (entries : List Entry) (place : Place) (ts : List Item) (v w : Result Bool Offence) → Holds entries place ts v → Holds entries place ts w → v ≡ w
  one_condition entries place ts _ _ (stopped e x) (stopped f y) = let q : Err e ≡ Err f = one_list entries (limit.Tokens 256 (offence 121 place)) ts (Err e) (Err f) x y in cc
  one_condition entries place ts _ _ (stopped e x) (decided out j v y g is) = let q : Err e ≡ Ok out = one_list entries (limit.Tokens 256 (offence 121 place)) ts (Err e) (Ok out) x y in absurd (cc)
  one_condition entries place ts _ _ (decided out j v x g is) (stopped f y) = let q : Ok out ≡ Err f = one_list entries (limit.Tokens 256 (offence 121 place)) ts (Ok out) (Err f) x y in absurd (cc)
  one_condition entries place ts _ _ (decided out j v x g is) (decided put k w y h js) =
      let q : Ok out ≡ Ok put = one_list entries (limit.Tokens 256 (offence 121 place)) ts (Ok out) (Ok put) x y in
      let s : out ≡ put = cc in
      is ∙ ap (held place) (one_judgement.one (map term_of put) j k (subst (λ l. Judges (map term_of l) j) s g) h) ∙ sym js

  -- what comes next where this stands first
  abbrev Says : Front → Result Progress Offence → Type 0
  Says (front.Plain u) v = v ≡ u
  Says (front.Calls entries groups c args) v = (u : Result (List Item) Offence) × Replaces entries c args u × (v ≡ resumed entries groups u)
  Says (front.Asks place items t) v = (u : Result Bool Offence) × Holds t.table place items u × (v ≡ grouped t u)

  says : (s : State) (v : Result Progress Offence) (f : Front) → front_of s ≡ f → Step s v → Says f v
  says _ _ f is (plain s v e) = subst (λ g. Says g v) (sym e ∙ is) refl
  says _ _ f is (call s entries groups c args u v e h w) = subst (λ g. Says g v) (sym e ∙ is) (u, h, w)
  says _ _ f is (asked s t place items u v e h w) = subst (λ g. Says g v) (sym e ∙ is) (u, h, w)

  one_step : (s : State) (v w : Result Progress Offence) → Step s v → Step s w → v ≡ w
  one_step _ _ w (plain s v e) x = sym (says s w (front.Plain v) e x)
  one_step _ _ w (call s entries groups c args u v e h is) x =
      let p = says s w (front.Calls entries groups c args) e x in
      is ∙ ap (resumed entries groups) (one_call entries c args u p.0 h p.1) ∙ sym p.2
  one_step _ _ w (asked s t place items u v e h is) x =
      let p = says s w (front.Asks place items t) e x in
      is ∙ ap (grouped t) (one_condition t.table place items u p.0 h p.1) ∙ sym p.2

  one_text : (room : ℕ) (s : State) (v w : Verdict) → Preprocesses room s v → Preprocesses room s w → v ≡ w
  one_text _ _ _ _ (ended room s x) (ended _ _ y) = refl
  one_text _ _ _ _ (ended room s x) (texts.stopped _ _ f y) = let q : Ok leads.Ends ≡ Err f = one_step s _ _ x y in absurd (cc)
  one_text _ _ _ w (ended room s x) (gone _ _ t _ y k) = let q : Ok leads.Ends ≡ Ok (leads.Goes t) = one_step s _ _ x y in absurd (cc)
  one_text _ _ _ w (ended _ s x) (given room _ t token r _ y k is) = let q : Ok leads.Ends ≡ Ok (leads.Gives token t) = one_step s _ _ x y in absurd (cc)
  one_text _ _ _ _ (ended _ s x) (full _ t token y) = let q : Ok leads.Ends ≡ Ok (leads.Gives token t) = one_step s _ _ x y in absurd (cc)
  one_text _ _ _ _ (texts.stopped room s e x) (ended _ _ y) = let q : Err e ≡ Ok leads.Ends = one_step s _ _ x y in absurd (cc)
  one_text _ _ _ _ (texts.stopped room s e x) (texts.stopped _ _ f y) = let q : Err e ≡ Err f = one_step s _ _ x y in cc
  one_text _ _ _ w (texts.stopped room s e x) (gone _ _ t _ y k) = let q : Err e ≡ Ok (leads.Goes t) = one_step s _ _ x y in absurd (cc)
  one_text _ _ _ w (texts.stopped _ s e x) (given room _ t token r _ y k is) = let q : Err e ≡ Ok (leads.Gives token t) = one_step s _ _ x y in absurd (cc)
  one_text _ _ _ _ (texts.stopped _ s e x) (full _ t token y) = let q : Err e ≡ Ok (leads.Gives token t) = one_step s _ _ x y in absurd (cc)
  one_text _ _ v _ (gone room s t _ x h) (ended _ _ y) = let q : Ok (leads.Goes t) ≡ Ok leads.Ends = one_step s _ _ x y in absurd (cc)
  one_text _ _ v _ (gone room s t _ x h) (texts.stopped _ _ f y) = let q : Ok (leads.Goes t) ≡ Err f = one_step s _ _ x y in absurd (cc)
  one_text _ _ v w (gone room s t _ x h) (gone _ _ u _ y k) =
      let q : Ok (leads.Goes t) ≡ Ok (leads.Goes u) = one_step s _ _ x y in
      let same : u ≡ t = cc in
      one_text room t v w h (subst (λ z. Preprocesses room z w) same k)
  one_text _ _ v w (gone _ s t _ x h) (given room _ u token r _ y k is) = let q : Ok (leads.Goes t) ≡ Ok (leads.Gives token u) = one_step s _ _ x y in absurd (cc)
  one_text _ _ v _ (gone _ s t _ x h) (full _ u token y) = let q : Ok (leads.Goes t) ≡ Ok (leads.Gives token u) = one_step s _ _ x y in absurd (cc)
  one_text _ _ v _ (given room s t token r _ x h is) (ended _ _ y) = let q : Ok (leads.Gives token t) ≡ Ok leads.Ends = one_step s _ _ x y in absurd (cc)
  one_text _ _ v _ (given room s t token r _ x h is) (texts.stopped _ _ f y) = let q : Ok (leads.Gives token t) ≡ Err f = one_step s _ _ x y in absurd (cc)
  one_text _ _ v w (given room s t token r _ x h is) (gone _ _ u _ y k) = let q : Ok (leads.Gives token t) ≡ Ok (leads.Goes u) = one_step s _ _ x y in absurd (cc)
  one_text _ _ v w (given room s t token r _ x h is) (given _ _ u other z _ y k js) =
      let q : Ok (leads.Gives token t) ≡ Ok (leads.Gives other u) = one_step s _ _ x y in
      let same : u ≡ t = cc in
      let also : token ≡ other = cc in
      is ∙ ap (λ l. with_front l r) also ∙ ap (with_front other) (one_text room t r z h (subst (λ m. Preprocesses room m z) same k)) ∙ sym js
  one_text _ _ _ _ (full s t token x) (ended _ _ y) = let q : Ok (leads.Gives token t) ≡ Ok leads.Ends = one_step s _ _ x y in absurd (cc)
  one_text _ _ _ _ (full s t token x) (texts.stopped _ _ f y) = let q : Ok (leads.Gives token t) ≡ Err f = one_step s _ _ x y in absurd (cc)
  one_text _ _ _ w (full s t token x) (gone _ _ u _ y k) = let q : Ok (leads.Gives token t) ≡ Ok (leads.Goes u) = one_step s _ _ x y in absurd (cc)
  one_text _ _ _ _ (full s t token x) (full _ u other y) =
      let q : Ok (leads.Gives token t) ≡ Ok (leads.Gives other u) = one_step s _ _ x y in
      let also : token ≡ other = cc in
      ap (λ l. let o : Verdict = Err (offence 124 l.place) in o) also

  one_expansion : (tokens : Tokens) (v w : Result Tokens Offence) → Expansion tokens v → Expansion tokens w → v ≡ w
  one_expansion tokens _ _ (whole u v x is) (whole z w y js) = is ∙ ap (settled (unended_from _ 0 tokens.list) tokens.end) (one_text _ _ u z x y) ∙ sym js

pub one_verdict : lists.OneVerdict → OneReplacement → OneJudgement → OneVerdict
one_verdict a b c = one_expansion a b c
