-- Tokens have one verdict.
use Rattle.std.proofs.Common.{◌≡◌, ℕ, zero, suc, Option, Some, None, List, [], ◌∷◌, ◌++◌, Ok, Err, refl, sym, ap, ◌∙◌, subst}
use Rattle.clv_place.specs.declared.stop.Offence.{Offence}
use Rattle.cl_macro.specs.declared.macros.Entry.{Entry}
use Rattle.cl_macro.specs.declared.item.Item.{Item}
use Rattle.cl_macro.specs.declared.item.Call.{Call}
use Rattle.cl_macro.specs.declared.item.Room.{Room}
use Rattle.cl_macro.specs.declared.item.Room.TheVariants as limit
use Rattle.cl_macro.specs.declared.item.First.{First}
use Rattle.cl_macro.specs.declared.item.First.TheVariants as stands
use Rattle.cl_macro.specs.Replacements.{Verdict}
use Rattle.cl_macro.specs.Firsts.{first}
use Rattle.cl_macro.specs.Expansions.{ArgumentsVerdict, with_front, with_argument, call_becomes, before, room_behind, Expands, ended, kept, full, replaced, bad, called, stopped, EachExpands, none, fails, more, Replaces, within, put_in, OneVerdict, OneReplacement}

-- what a verdict says where a token is kept, by the room behind it
abbrev SaysKept : List Entry → Room → Item → List Item → Verdict → Option Room → Type 0
SaysKept entries room t rest v (Some less) = (r : Verdict) × Expands entries less rest r × (v ≡ with_front t r)
SaysKept entries room t rest v None = (e : Offence) × (room ≡ limit.Tokens zero e) × (v ≡ Err e)

-- what it says of a call, by what is to be read on
abbrev SaysCall : List Entry → Room → Verdict → Verdict → Type 0
SaysCall entries room (Ok next) v = Expands entries room next v
SaysCall entries room (Err e) v = v ≡ Err e

-- what it says where this stands first
abbrev Says : List Entry → Room → First → Verdict → Type 0
Says entries room stands.End v = v ≡ Ok []
Says entries room (stands.Kept t rest) v = SaysKept entries room t rest v (room_behind room)
Says entries room (stands.Becomes rest) v = Expands entries room rest v
Says entries room (stands.Bad e) v = v ≡ Err e
Says entries room (stands.Calls c args) v = (u : Verdict) × Replaces entries c args u × SaysCall entries room u v

says : (entries : List Entry) (room : Room) (ts : List Item) (v : Verdict) (f : First) → first entries ts ≡ f → Expands entries room ts v → Says entries room f v
says entries _ _ _ f is (ended room ts e) = subst (λ g. Says entries room g (Ok [])) (sym e ∙ is) refl
says entries _ _ _ f is (kept room less ts rest t r v e l h w) = subst (λ g. Says entries room g v) (sym e ∙ is) (subst (SaysKept entries room t rest v) (sym l) (r, h, w))
says entries _ _ _ f is (full o ts rest t e) = subst (λ g. Says entries (limit.Tokens zero o) g (Err o)) (sym e ∙ is) (o, refl, refl)
says entries _ _ _ f is (replaced room ts rest r e h) = subst (λ g. Says entries room g r) (sym e ∙ is) h
says entries _ _ _ f is (bad room ts o e) = subst (λ g. Says entries room g (Err o)) (sym e ∙ is) refl
says entries _ _ _ f is (called room ts next c args r e gives h) = subst (λ g. Says entries room g r) (sym e ∙ is) (Ok next, gives, h)
says entries _ _ _ f is (stopped room ts c args o e gives) = subst (λ g. Says entries room g (Err o)) (sym e ∙ is) (Err o, gives, refl)

mutual
  one : (entries : List Entry) (room : Room) (ts : List Item) (v w : Verdict) → Expands entries room ts v → Expands entries room ts w → v ≡ w
  one entries _ _ _ w (ended room ts e) x = sym (says entries room ts w stands.End e x)
  one entries _ _ _ w (kept room less ts rest t r v e l h is) x =
      let p = subst (SaysKept entries room t rest w) l (says entries room ts w (stands.Kept t rest) e x) in
      is ∙ ap (with_front t) (one entries less rest r p.0 h p.1) ∙ sym p.2
  one entries _ _ _ w (full o ts rest t e) x =
      let p = says entries (limit.Tokens zero o) ts w (stands.Kept t rest) e x in
      let same : limit.Tokens zero o ≡ limit.Tokens zero p.0 = p.1 in
      let q : o ≡ p.0 = cc in
      ap (λ z. Err z) q ∙ sym p.2
  one entries _ _ _ w (replaced room ts rest r e h) x = one entries room rest r w h (says entries room ts w (stands.Becomes rest) e x)
  one entries _ _ _ w (bad room ts o e) x = sym (says entries room ts w (stands.Bad o) e x)
  one entries _ _ _ w (called room ts next c args r e gives h) x =
      let p = says entries room ts w (stands.Calls c args) e x in
      one entries room next r w h (subst (λ u. SaysCall entries room u w) (sym (one_call entries c args (Ok next) p.0 gives p.1)) p.2)
  one entries _ _ _ w (stopped room ts c args o e gives) x =
      let p = says entries room ts w (stands.Calls c args) e x in
      sym (subst (λ u. SaysCall entries room u w) (sym (one_call entries c args (Err o) p.0 gives p.1)) p.2)

  one_each : (entries : List Entry) (args : List (List Item)) (v w : ArgumentsVerdict) → EachExpands entries args v → EachExpands entries args w → v ≡ w
  one_each entries _ _ _ none none = refl
  one_each entries _ _ _ (fails a rest e h) (fails _ _ f k) = let q : Err e ≡ Err f = one entries limit.Endless a (Err e) (Err f) h k in cc
  one_each entries _ _ _ (fails a rest e h) (more _ ys _ u w k each is) = let q : Err e ≡ Ok ys = one entries limit.Endless a (Err e) (Ok ys) h k in absurd (cc)
  one_each entries _ _ _ (more a xs rest u v h each is) (fails _ _ f k) = let q : Ok xs ≡ Err f = one entries limit.Endless a (Ok xs) (Err f) h k in absurd (cc)
  one_each entries _ _ _ (more a xs rest u v h each is) (more _ ys _ z w k other js) =
      let q : Ok xs ≡ Ok ys = one entries limit.Endless a (Ok xs) (Ok ys) h k in
      let s : xs ≡ ys = cc in
      is ∙ ap (λ l. with_argument l u) s ∙ ap (with_argument ys) (one_each entries rest u z each other) ∙ sym js

  one_call : (entries : List Entry) (c : Call) (args : List (List Item)) (v w : Verdict) → Replaces entries c args v → Replaces entries c args w → v ≡ w
  one_call entries _ _ _ _ (within c args e h) (within _ _ f k) = let q : Err e ≡ Err f = one_each entries args (Err e) (Err f) h k in cc
  one_call entries _ _ _ _ (within c args e h) (put_in _ _ xs w k is) = let q : Err e ≡ Ok xs = one_each entries args (Err e) (Ok xs) h k in absurd (cc)
  one_call entries _ _ _ _ (put_in c args xs v h is) (within _ _ f k) = let q : Ok xs ≡ Err f = one_each entries args (Ok xs) (Err f) h k in absurd (cc)
  one_call entries _ _ _ _ (put_in c args xs v h is) (put_in _ _ ys w k js) =
      let q : Ok xs ≡ Ok ys = one_each entries args (Ok xs) (Ok ys) h k in
      let s : xs ≡ ys = cc in
      is ∙ ap (λ l. before c.beyond (call_becomes entries c l)) s ∙ sym js

pub one_verdict : OneVerdict
one_verdict = one

pub one_replacement : OneReplacement
one_replacement = one_call
