-- The steps of the reading of parameters.
use Rattle.std.proofs.Common.{◌≡◌, ℕ, zero, suc, ◌+◌, ◌-◌, ◌≤◌, ◌<◌, List, [], ◌∷◌, ◌++◌, length, drop, get_or, Bool, true, false, refl, sym, ap, ◌∙◌, subst, append_assoc, arith, ◌⊎◌, inl, inr}
use Rattle.std.specs.Prelude.{◌&&◌, not, Option, Some, None, Result, Ok, Err, IfOk, IfErr}
use Rattle.std.proofs.lemmas.List.{append-nil}
use Rattle.std.proofs.Math.Seq.{drop-cons}
use Rattle.clv_place.specs.declared.place.Place.{Place}
use Rattle.cl_ast.specs.declared.expression.Qual.{Qual}
use Rattle.cl_ast.specs.declared.expression.Spec.{Spec}
use Rattle.cl_ast.specs.declared.declaration.Param.{Param}
use Rattle.cl_grammar.specs.declared.lexeme.Lexeme.{Lexeme}
use Rattle.cl_grammar.specs.declared.terminal.Terminal.{Terminal}
use Rattle.cl_grammar.specs.declared.terminal.Terminal.TheVariants as t
use Rattle.cl_grammar.specs.declared.stop.ExprStop.{ExprStop}
use Rattle.cl_grammar.specs.declared.stop.ExprStop.TheVariants.{Out, NoMemory}
use Rattle.cl_grammar.specs.Expressions.{IsA, IsSpec, MayBeStar}
use Rattle.cl_grammar.specs.ExpressionTrees.{SpecTree, StarOf}
use Rattle.cl_grammar.specs.Statements as st
use Rattle.cl_grammar.specs.Statements.{IsParam, AreParams, IsParamList}
use Rattle.cl_grammar.specs.StatementTrees as tree
use Rattle.cl_grammar.specs.StatementTrees.{ParamTree, ParamTrees, ParamListTree, BeginsAt, IsVoidAlone}
use Rattle.cl_grammar.specs.Symbols as e
use Rattle.cl_grammar.specs.Symbols.{Sym, Mark, E, D, Are, is_some}
use Rattle.cl_grammar.specs.DeclarationSymbols as d
use Rattle.cl_grammar.specs.DeclarationSymbols.{IsParams, IsBehindParams}
use Rattle.cl_grammar.specs.Items.{Fits, Item, Excluded, between, EndsIn, StandsAt, IsAt, OtherAt, PlaceAt, TextAt, GoesOn, ReadAt, NoneAt, IsRefused, RefusedAt, BarredAt}
use Rattle.cl_grammar.proofs.Predicted.{keeps_part}
use Rattle.cl_grammar.proofs.Places.{between_same, between_one, between_join, then_mark, then_of, by_other_kinds, starts_with, expand, done}
use Rattle.cl_grammar.proofs.StatementPlaces.{stops_next}
use Rattle.cl_grammar.proofs.DeclarationRules.{decl_part_of, and_true, and_false}
use Rattle.cl_grammar.proofs.DeclarationPredicted.{decl_picks, keeps_decl, choose, choose_params, bar_chosen, bar_params_here, params_begun}
use Rattle.cl_parse.specs.Readings.{ParamAt, ParamRefusedAt, ParamsAt, ParamListAt, VoidAloneAt, NoVoidAloneAt}
use Rattle.cl_parse.proofs.Places.{decl_starts, decl_expands, then_decl, then_part, any_read, any_refused, no_comma, no_name}

-- ---- tokens

filler : Lexeme
filler = record { terminal = t.End; text = []; place = record { line = 1; col = 1 } }

pub token_there : (ts : List Lexeme) (at : ℕ) → at < length ts → (l : Lexeme) × StandsAt ts at l
token_there ts at h = let e : suc at ≡ at + 1 = omega arith in (get_or ts at filler, record { within = h; here = subst (λ n. drop at ts ≡ get_or ts at filler ∷ drop n ts) e (drop-cons ts at filler h) })

pub same_token : (ts : List Lexeme) (at : ℕ) (l m : Lexeme) → StandsAt ts at l → StandsAt ts at m → l ≡ m
same_token ts at l m a b = let h : l ∷ drop (at + 1) ts ≡ m ∷ drop (at + 1) ts = sym a.here ∙ b.here in cc

pub between_first : (ts : List Lexeme) (a b : ℕ) (l : Lexeme) → StandsAt ts a l → a < b → between ts a b ≡ l ∷ between ts (a + 1) b
between_first ts a b l s h = sym (between_join ts a (a + 1) b (omega arith) (omega arith)) ∙ ap (λ z. z ++ between ts (a + 1) b) (between_one ts a l s.here)

pub between_last : (ts : List Lexeme) (a b : ℕ) (l : Lexeme) → StandsAt ts b l → a ≤ b → between ts a (b + 1) ≡ between ts a b ++ l ∷ []
between_last ts a b l s h = sym (between_join ts a b (b + 1) h (omega arith)) ∙ ap (λ z. between ts a b ++ z) (between_one ts b l s.here)

pub begins_at : (ts : List Lexeme) (a b : ℕ) (place : Place) → PlaceAt ts a place → a < b → BeginsAt (between ts a b) place
begins_at ts a b place p h = subst (λ z. BeginsAt z place) (sym (between_first ts a b p.token p.stands h)) (subst (λ z. BeginsAt (p.token ∷ between ts (a + 1) b) z) p.is (tree.begins p.token (between ts (a + 1) b)))

-- ---- one parameter

-- its type and its `*`
pub record TypedAt (ts : List Lexeme) (at mid next : ℕ) : Type 0 where
  pub vector : Bool
  pub forth : at < mid
  pub spec : ReadAt (E (e.Spec vector)) ts at mid
  pub none : NoneAt (E (e.Spec (not vector))) ts at mid
  pub star : ReadAt (E e.MayStar) ts mid next

param_start : (named : Bool) (ts : List Lexeme) (at : ℕ) → at < length ts → GoesOn (D (d.NextParam named)) (E e.AnySpec ∷ E e.MayStar ∷ D (d.ParamName named) ∷ []) ts at at
param_start named ts at h = let s = token_there ts at h in decl_starts (d.NextParam named) 0 ts at s.0.terminal (record { token = s.0; stands = s.1; is = refl }) refl

typed_reads : (named : Bool) (ts : List Lexeme) (at mid next : ℕ) → at < length ts → TypedAt ts at mid next → GoesOn (D (d.NextParam named)) (D (d.ParamName named) ∷ []) ts at next
typed_reads named ts at mid next h p =
    then_part (D (d.NextParam named)) e.MayStar (D (d.ParamName named) ∷ []) ts at mid next
    (then_part (D (d.NextParam named)) e.AnySpec (E e.MayStar ∷ D (d.ParamName named) ∷ []) ts at at mid (param_start named ts at h) (any_read p.vector ts at mid p.spec p.none) refl) p.star refl

pub is_spec : (vector : Bool) (ts : List Lexeme) (at next : ℕ) → ReadAt (E (e.Spec vector)) ts at next → IsSpec vector (between ts at next)
is_spec vector ts at next r = let i = r.read in let j = i.item in subst (IsSpec vector) (append-nil (between ts at next)) (j.builds [] refl)

is_star : (ts : List Lexeme) (at next : ℕ) → ReadAt (E e.MayStar) ts at next → MayBeStar (between ts at next)
is_star ts at next r = let i = r.read in let j = i.item in subst MayBeStar (append-nil (between ts at next)) (j.builds [] refl)

named_reads : (named : Bool) (ts : List Lexeme) (at mid next : ℕ) → EndsIn ts → at < length ts → TypedAt ts at mid next → IsAt ts next t.Name → GoesOn (D (d.NextParam named)) (D (d.BehindParam (named && true)) ∷ []) ts at (next + 1)
named_reads named ts at mid next ends h p n =
    subst (λ z. GoesOn (D (d.NextParam named)) (D (d.BehindParam z) ∷ []) ts at (next + 1)) (sym (and_true named))
    (then_mark (D (d.NextParam named)) t.Name (D (d.BehindParam named) ∷ []) ts at next ends
    (decl_expands (D (d.NextParam named)) (d.ParamName named) [] 0 ts at next t.Name (typed_reads named ts at mid next h p) n refl refl) n refl)

unnamed_reads : (named : Bool) (ts : List Lexeme) (at mid next : ℕ) → at < length ts → TypedAt ts at mid next → OtherAt ts next t.Name → GoesOn (D (d.NextParam named)) (D (d.BehindParam (named && false)) ∷ []) ts at next
unnamed_reads named ts at mid next h p o =
    subst (λ z. GoesOn (D (d.NextParam named)) (D (d.BehindParam z) ∷ []) ts at next) (sym (and_false named))
    (decl_expands (D (d.NextParam named)) (d.ParamName named) [] 1 ts at next o.other (typed_reads named ts at mid next h p) o.stands
    (by_other_kinds (1 ∷ []) (decl_picks (d.ParamName named) 1) o.other refl (no_name o.other o.differs)) refl)

-- the tokens of both parts
two_parts : (ts : List Lexeme) (at mid next : ℕ) → TypedAt ts at mid next → between ts at mid ++ between ts mid next ≡ between ts at next
two_parts ts at mid next p = between_join ts at mid next (let f = p.forth in omega arith) (let s = p.star in let r = s.read in r.forth)

three_parts : (ts : List Lexeme) (at mid next : ℕ) (n : Lexeme) → TypedAt ts at mid next → StandsAt ts next n → between ts at mid ++ (between ts mid next ++ n ∷ []) ≡ between ts at (next + 1)
three_parts ts at mid next n p s = sym (append_assoc (between ts at mid) (between ts mid next) (n ∷ [])) ∙ ap (λ z. z ++ n ∷ []) (two_parts ts at mid next p) ∙ sym (between_last ts at next n s (let f = p.forth in let q = p.star in let r = q.read in let g = r.forth in omega arith))

pub named_at : (ts : List Lexeme) (at mid next : ℕ) (spec : Spec) (star : Option (List Qual)) (text : List ℕ) (place : Place) → EndsIn ts → at < length ts → TypedAt ts at mid next → SpecTree (between ts at mid) spec → StarOf (between ts mid next) star → IsAt ts next t.Name → TextAt ts next text → PlaceAt ts next place → ParamAt ts at (next + 1) (record { spec = spec; star = star; name = Some text; place = place })
named_at ts at mid next spec star text place ends h p a b n x y =
    let sx = same_token ts next x.token n.token x.stands n.stands in
    let sy = same_token ts next y.token n.token y.stands n.stands in
    let named : ParamTree (between ts at (next + 1)) (record { spec = spec; star = star; name = Some n.token.text; place = n.token.place }) =
    subst (λ z. ParamTree z (record { spec = spec; star = star; name = Some n.token.text; place = n.token.place })) (three_parts ts at mid next n.token p n.stands) (tree.named n.token (between ts at mid) (between ts mid next) spec star a b n.is) in
    record {
      forth = let f = p.forth in let q = p.star in let r = q.read in let g = r.forth in omega arith;
      reads = λ named. named_reads named ts at mid next ends h p n;
      is = subst (IsParam true) (three_parts ts at mid next n.token p n.stands) (st.named p.vector n.token (between ts at mid) (between ts mid next) (is_spec p.vector ts at mid p.spec) (is_star ts mid next p.star) n.is);
      tree = subst (λ z. ParamTree (between ts at (next + 1)) (record { spec = spec; star = star; name = Some z; place = place })) (sym (ap (λ l. l.text) sx) ∙ x.is)
          (subst (λ z. ParamTree (between ts at (next + 1)) (record { spec = spec; star = star; name = Some n.token.text; place = z })) (sym (ap (λ l. l.place) sy) ∙ y.is) named);
    }

pub unnamed_at : (ts : List Lexeme) (at mid next : ℕ) (spec : Spec) (star : Option (List Qual)) (place : Place) → at < length ts → TypedAt ts at mid next → SpecTree (between ts at mid) spec → StarOf (between ts mid next) star → OtherAt ts next t.Name → PlaceAt ts at place → ParamAt ts at next (record { spec = spec; star = star; name = None; place = place })
unnamed_at ts at mid next spec star place h p a b o y = record {
  forth = let f = p.forth in let q = p.star in let r = q.read in let g = r.forth in omega arith;
  reads = λ named. unnamed_reads named ts at mid next h p o;
  is = subst (IsParam false) (two_parts ts at mid next p) (st.unnamed p.vector (between ts at mid) (between ts mid next) (is_spec p.vector ts at mid p.spec) (is_star ts mid next p.star));
  tree = subst (λ z. ParamTree z (record { spec = spec; star = star; name = None; place = place })) (two_parts ts at mid next p) (tree.unnamed (between ts at mid) (between ts mid next) place spec star a b (begins_at ts at mid place y p.forth));
}

pub param_refused : (ts : List Lexeme) (at : ℕ) (stop : ExprStop) → at < length ts → RefusedAt (E (e.Spec false)) ts at stop → BarredAt (E (e.Spec true)) ts at stop → ParamRefusedAt ts at stop
param_refused ts at stop h r b = record {
  refused = λ named. stops_next (D (d.NextParam named)) (E e.AnySpec) (E e.MayStar ∷ D (d.ParamName named) ∷ []) ts at at stop (keeps_part (D (d.NextParam named)) e.AnySpec (E e.MayStar ∷ D (d.ParamName named) ∷ []) refl) (param_start named ts at h) (any_refused ts at stop r b) refl;
}

pub param_no_memory : (ts : List Lexeme) (at : ℕ) → ParamRefusedAt ts at NoMemory
param_no_memory ts at = record { refused = λ named. record { refused = tt } }

-- ---- parameters

pub record SoFar (ts : List Lexeme) (at here : ℕ) (params : List Param) (named : Bool) : Type 0 where
  pub forth : at < here
  pub within : here < length ts
  pub reads : GoesOn (D (d.NextParam true)) (D (d.BehindParam named) ∷ []) ts at here
  pub are : AreParams named (between ts at here)
  pub trees : ParamTrees (between ts at here) params

pub first_param : (ts : List Lexeme) (at here : ℕ) (p : Param) (named : Bool) → ParamAt ts at here p → named ≡ is_some p.name → SoFar ts at here (p ∷ []) named
first_param ts at here p named a e = subst (SoFar ts at here (p ∷ [])) (sym e) (record {
  forth = a.forth;
  within = let r = a.reads true in r.within;
  reads = a.reads true;
  are = st.last (is_some p.name) (between ts at here) a.is;
  trees = tree.last (between ts at here) p a.tree;
})

and_again : (a b c : Bool) → (a && (b && c)) ≡ ((a && b) && c)
and_again true b c = refl
and_again false b c = refl

params_snoc : (n m : Bool) (c : Lexeme) (u v : List Lexeme) → AreParams n u → IsA t.Comma c → IsParam m v → AreParams (n && m) (u ++ c ∷ v)
params_snoc n m c u v (st.last _ _ a) h b = st.more n m c u v a h (st.last m v b)
params_snoc _ m c _ v (st.more n others k u w a g rest) h b =
    subst (AreParams ((n && others) && m)) (sym (append_assoc u (k ∷ w) (c ∷ v)))
    (subst (λ z. AreParams z (u ++ k ∷ (w ++ c ∷ v))) (and_again n others m) (st.more n (others && m) k u (w ++ c ∷ v) a g (params_snoc others m c w v rest h b)))

trees_snoc : (c : Lexeme) (u v : List Lexeme) (ps : List Param) (p : Param) → ParamTrees u ps → IsA t.Comma c → ParamTree v p → ParamTrees (u ++ c ∷ v) (ps ++ p ∷ [])
trees_snoc c u v _ p (tree.last _ q a) h b = tree.more c u v q (p ∷ []) a h (tree.last v p b)
trees_snoc c _ v _ p (tree.more k u w q qs a g rest) h b = subst (λ z. ParamTrees z (q ∷ (qs ++ p ∷ []))) (sym (append_assoc u (k ∷ w) (c ∷ v))) (tree.more k u (w ++ c ∷ v) q (qs ++ p ∷ []) a g (trees_snoc c w v qs p rest h b))

comma_parts : (ts : List Lexeme) (at here next : ℕ) (c : Lexeme) → StandsAt ts here c → at ≤ here → here + 1 ≤ next → between ts at here ++ c ∷ between ts (here + 1) next ≡ between ts at next
comma_parts ts at here next c s h g = ap (λ z. between ts at here ++ z) (sym (between_first ts here next c s (omega arith))) ∙ between_join ts at here next h (omega arith)

behind_comma : (ts : List Lexeme) (at here : ℕ) (ps : List Param) (named : Bool) → EndsIn ts → SoFar ts at here ps named → IsAt ts here t.Comma → GoesOn (D (d.NextParam true)) (D (d.NextParam named) ∷ []) ts at (here + 1)
behind_comma ts at here ps named ends f s =
    then_mark (D (d.NextParam true)) t.Comma (D (d.NextParam named) ∷ []) ts at here ends
    (decl_expands (D (d.NextParam true)) (d.BehindParam named) [] 0 ts at here t.Comma f.reads s refl refl) s refl

pub more_params : (ts : List Lexeme) (at here next : ℕ) (ps : List Param) (p : Param) (named both : Bool) → EndsIn ts → SoFar ts at here ps named → IsAt ts here t.Comma → ParamAt ts (here + 1) next p → both ≡ (named && is_some p.name) → SoFar ts at next (ps ++ p ∷ []) both
more_params ts at here next ps p named both ends f s a e =
    let split = comma_parts ts at here next s.token s.stands (let g = f.forth in omega arith) (let g = a.forth in omega arith) in
    subst (SoFar ts at next (ps ++ p ∷ [])) (sym e) (record {
      forth = let g = f.forth in let k = a.forth in omega arith;
      within = let r = a.reads true in r.within;
      reads = then_decl (D (d.NextParam true)) (d.NextParam named) [] (D (d.BehindParam (named && is_some p.name)) ∷ []) ts at (here + 1) next (behind_comma ts at here ps named ends f s) (a.reads named) refl;
      are = subst (AreParams (named && is_some p.name)) split (params_snoc named (is_some p.name) s.token (between ts at here) (between ts (here + 1) next) f.are s.is a.is);
      trees = subst (λ z. ParamTrees z (ps ++ p ∷ [])) split (trees_snoc s.token (between ts at here) (between ts (here + 1) next) ps p f.trees s.is a.tree);
    })

pub params_done : (ts : List Lexeme) (at here : ℕ) (ps : List Param) (named : Bool) → SoFar ts at here ps named → OtherAt ts here t.Comma → ParamsAt ts at here ps named
params_done ts at here ps named f o = record {
  forth = f.forth;
  reads = decl_expands (D (d.NextParam true)) (d.BehindParam named) [] 1 ts at here o.other f.reads o.stands (by_other_kinds (43 ∷ []) (decl_picks (d.BehindParam named) 1) o.other refl (no_comma o.other o.differs)) refl;
  are = f.are;
  trees = f.trees;
}

pub first_refused : (ts : List Lexeme) (at : ℕ) (stop : ExprStop) → ParamRefusedAt ts at stop → RefusedAt (D (d.NextParam true)) ts at stop
first_refused ts at stop h = h.refused true

pub more_refused : (ts : List Lexeme) (at here : ℕ) (ps : List Param) (named : Bool) (stop : ExprStop) → EndsIn ts → SoFar ts at here ps named → IsAt ts here t.Comma → ParamRefusedAt ts (here + 1) stop → RefusedAt (D (d.NextParam true)) ts at stop
more_refused ts at here ps named stop ends f s h = stops_next (D (d.NextParam true)) (D (d.NextParam named)) [] ts at (here + 1) stop (keeps_decl (D (d.NextParam true)) (d.NextParam named) [] refl) (behind_comma ts at here ps named ends f s) (h.refused named) refl

-- ---- parameters, none or `void`

pub no_params_at : (ts : List Lexeme) (at : ℕ) → IsAt ts at t.CloseParen → ParamListAt ts at at [] true
no_params_at ts at s = record {
  reads = decl_starts d.Params 0 ts at t.CloseParen s refl;
  is = subst (IsParamList true) (sym (between_same ts at)) st.none;
  trees = λ c. subst (λ z. ParamListTree z []) (sym (between_same ts at)) tree.none;
}

void_read : (ts : List Lexeme) (at : ℕ) → EndsIn ts → VoidAloneAt ts at → ReadAt (E e.AnySpec) ts at (at + 1)
void_read ts at ends v =
    let a = starts_with e.AnySpec 0 ts at t.Void v.void refl in
    let b = expand (E e.AnySpec) (e.Spec false) [] 0 ts at at t.Void a v.void refl refl in
    let c = expand (E e.AnySpec) e.Qualifiers (E (e.Base false) ∷ E e.Qualifiers ∷ []) 0 ts at at t.Void b v.void refl refl in
    let g = expand (E e.AnySpec) (e.Base false) (E e.Qualifiers ∷ []) 0 ts at at t.Void c v.void refl refl in
    let h = then_of (E e.AnySpec) (e.Whole false) (E e.Qualifiers ∷ []) ts at at t.Void ends g v.void refl refl in
    done (E e.AnySpec) ts at (at + 1) (expand (E e.AnySpec) e.Qualifiers [] 0 ts at (at + 1) t.CloseParen h v.close refl refl)

void_param : (ts : List Lexeme) (at : ℕ) → EndsIn ts → VoidAloneAt ts at → GoesOn (D (d.NextParam true)) (Mark t.CloseParen ∷ D (d.BehindParams false) ∷ []) ts at (at + 1)
void_param ts at ends v =
    let s = v.void in
    let w = s.stands in
    let a = then_part (D (d.NextParam true)) e.AnySpec (E e.MayStar ∷ D (d.ParamName true) ∷ []) ts at at (at + 1) (param_start true ts at w.within) (void_read ts at ends v) refl in
    let b = then_part (D (d.NextParam true)) e.MayStar (D (d.ParamName true) ∷ []) ts at (at + 1) (at + 1) a (done (E e.MayStar) ts (at + 1) (at + 1) (starts_with e.MayStar 0 ts (at + 1) t.CloseParen v.close refl)) refl in
    let c = decl_expands (D (d.NextParam true)) (d.ParamName true) [] 1 ts at (at + 1) t.CloseParen b v.close refl refl in
    decl_expands (D (d.NextParam true)) (d.BehindParam false) [] 1 ts at (at + 1) t.CloseParen c v.close refl refl

named_behind : (u : List Lexeme) → IsBehindParams false u → IsBehindParams true u
named_behind _ (d.declared _ k a) = d.declared true k a

void_only : (l : Lexeme) (s s1 : List Lexeme) → Item (D (d.NextParam true)) (Mark t.CloseParen ∷ D (d.BehindParams false) ∷ []) (l ∷ []) s s1 → IsA t.Void l → (others : List Sym) → Fits (D d.Params) others → (k : Lexeme) (v w : List Lexeme) → s1 ≡ k ∷ v → (u z : List Lexeme) → IsParams u → Are others z → l ∷ k ∷ w ≡ u ++ z → Are (Mark t.CloseParen ∷ D (d.BehindParams true) ∷ others) (k ∷ w)
void_only l s s1 i a others fits k v w first _ z (d.no_param c u h b) rest is = absurd (let q : l ∷ k ∷ w ≡ c ∷ (u ++ z) = is in let same : l ≡ c = cc in let f : t.Void ≡ t.CloseParen = sym a ∙ ap (λ y. y.terminal) same ∙ h in cc)
void_only l s s1 i a others fits k v w first _ z (d.only_void p c u h b g) rest is =
    let q : l ∷ k ∷ w ≡ p ∷ c ∷ (u ++ z) = is in
    let r : k ∷ w ≡ c ∷ (u ++ z) = cc in
    (c ∷ [], u ++ z, record { token = c; stands = b; alone = refl }, (u, z, g, rest, refl), r)
void_only l s s1 i a others fits k v w first u z (d.some_params _ h) rest is =
    let q = i.only others (record { stops = fits.stops }) k v w first (u, z, h, rest, is) in
    let r = q.3 in
    (q.0, q.1, q.2, (r.0, r.1, named_behind r.0 r.2, r.3, r.4), q.4)

void_made : (l : Lexeme) (u : List Lexeme) → IsA t.Void l → Are (Mark t.CloseParen ∷ D (d.BehindParams true) ∷ []) u → IsParams (l ∷ u)
void_made l u a are =
    let c = are.2 in
    let r = are.3 in
    let rest : are.1 ≡ r.0 = r.4 ∙ ap (λ z. r.0 ++ z) r.3 ∙ append-nil r.0 in
    subst (λ z. IsParams (l ∷ z)) (sym (are.4 ∙ ap (λ z. z ++ are.1) c.alone ∙ ap (λ z. c.token ∷ z) rest)) (d.only_void l c.token r.0 a c.stands r.2)

void_item : (l : Lexeme) (s s1 : List Lexeme) → Item (D (d.NextParam true)) (Mark t.CloseParen ∷ D (d.BehindParams false) ∷ []) (l ∷ []) s s1 → IsA t.Void l → Item (D d.Params) (Mark t.CloseParen ∷ D (d.BehindParams true) ∷ []) (l ∷ []) s s1
void_item l s s1 i a = record {
  split = i.split;
  builds = λ u are. void_made l u a are;
  only = λ others fits k v w first are. void_only l s s1 i a others fits k v w first are.0 are.1 are.2 are.3 are.4;
}

pub void_at : (ts : List Lexeme) (at : ℕ) → EndsIn ts → VoidAloneAt ts at → ParamListAt ts at (at + 1) [] true
void_at ts at ends v =
    let s = v.void in
    let g = void_param ts at ends v in
    let one = between_one ts at s.token (let w = s.stands in w.here) in
    record {
      reads = record {
        forth = omega arith;
        within = g.within;
        item = subst (λ z. Item (D d.Params) (Mark t.CloseParen ∷ D (d.BehindParams true) ∷ []) z (drop at ts) (drop (at + 1) ts)) (sym one)
            (void_item s.token (drop at ts) (drop (at + 1) ts) (subst (λ z. Item (D (d.NextParam true)) (Mark t.CloseParen ∷ D (d.BehindParams false) ∷ []) z (drop at ts) (drop (at + 1) ts)) one g.item) s.is);
      };
      is = subst (IsParamList true) (sym one) (st.void s.token s.is);
      trees = λ c. subst (λ z. ParamListTree z []) (sym one) (tree.void s.token s.is);
    }

-- two tokens, where one follows
pub two_there : (ts : List Lexeme) (at : ℕ) → at + 1 < length ts → (l m : Lexeme) × StandsAt ts at l × StandsAt ts (at + 1) m × (drop at ts ≡ l ∷ m ∷ drop ((at + 1) + 1) ts)
two_there ts at h =
    let a = token_there ts at (omega arith) in
    let b = token_there ts (at + 1) h in
    let p = a.1 in
    let q = b.1 in
    (a.0, b.0, p, q, p.here ∙ ap (λ z. a.0 ∷ z) q.here)

pub some_between : (ts : List Lexeme) (at next : ℕ) → at < next → at < length ts → between ts at next ≡ [] → ⊥
some_between ts at next h g e = let a = token_there ts at g in let f : a.0 ∷ between ts (at + 1) next ≡ [] = sym (between_first ts at next a.0 a.1 h) ∙ e in cc

pub is_there : (ts : List Lexeme) (at : ℕ) (l : Lexeme) (k : Terminal) → StandsAt ts at l → IsA k l → IsAt ts at k
is_there ts at l k s a = record { token = l; stands = s; is = a }

pub not_there : (ts : List Lexeme) (at : ℕ) (l : Lexeme) (k : Terminal) → StandsAt ts at l → OtherAt ts at k → IsA k l → ⊥
not_there ts at l k s o a = let q = o.stands in o.differs (sym q.is ∙ ap (λ z. z.terminal) (same_token ts at q.token l q.stands s) ∙ a)

params_chosen_at : (ts : List Lexeme) (at next : ℕ) (rhs : List Sym) → at < next → OtherAt ts at t.CloseParen → NoVoidAloneAt ts at → GoesOn (D (d.NextParam true)) rhs ts at next → GoesOn (D d.Params) (rhs ++ []) ts at next
params_chosen_at ts at next rhs h o n g =
    let w = two_there ts at (let k = g.within in omega arith) in
    record {
      forth = g.forth;
      within = g.within;
      item = choose (D d.Params) (D (d.NextParam true)) [] rhs (between ts at next) (drop at ts) (drop next ts) w.0 w.1 (drop ((at + 1) + 1) ts)
          (choose_params w.0 w.1 (not_there ts at w.0 t.CloseParen w.2 o) (λ a b. n.other (is_there ts at w.0 t.Void w.2 a) (is_there ts (at + 1) w.1 t.CloseParen w.3 b)))
          (λ u are. decl_part_of d.Params u (inr (inr (inl (record { are = are }))))) (keeps_decl (D d.Params) (d.NextParam true) [] refl) w.4
          (some_between ts at next h (let k = g.within in omega arith)) g.item;
    }

pub same_or : (a b : ℕ) → a ≤ b → (b ≡ a) ⊎ (a < b)
same_or zero zero h = inl refl
same_or zero (suc b) h = inr (omega arith)
same_or (suc a) zero h = absurd (omega arith)
same_or (suc a) (suc b) h = elim (same_or a b (omega arith)) as (λ _. (suc b ≡ suc a) ⊎ (suc a < suc b)) [ inl q ↦ inl (ap suc q) | inr q ↦ inr (omega arith) ]

only_one : (ts : List Lexeme) (at next : ℕ) → at ≤ next → next < length ts → between ts at next ≡ [] → next ≡ at
only_one ts at next h g e = elim (same_or at next h) as (λ _. next ≡ at) [ inl q ↦ q | inr q ↦ absurd (some_between ts at next q (omega arith) e) ]

-- `void` alone is no list where no `)` follows it.
not_void_alone : (ts : List Lexeme) (at next : ℕ) (u : List Lexeme) → u ≡ between ts at next → at < next → next < length ts → NoVoidAloneAt ts at → IsAt ts next t.CloseParen → IsVoidAlone u → ⊥
not_void_alone ts at next [] e h g n c v = v
not_void_alone ts at next (l ∷ []) e h g n c v =
    let a = token_there ts at (omega arith) in
    let q : l ∷ [] ≡ a.0 ∷ between ts (at + 1) next = e ∙ between_first ts at next a.0 a.1 h in
    let same : l ≡ a.0 = cc in
    let rest : between ts (at + 1) next ≡ [] = cc in
    n.other (is_there ts at a.0 t.Void a.1 (ap (λ z. z.terminal) (sym same) ∙ v)) (subst (λ z. IsAt ts z t.CloseParen) (only_one ts (at + 1) next (omega arith) g rest) c)
not_void_alone ts at next (l ∷ m ∷ u) e h g n c v = v

pub params_at : (ts : List Lexeme) (at next : ℕ) (ps : List Param) (named : Bool) → OtherAt ts at t.CloseParen → NoVoidAloneAt ts at → ParamsAt ts at next ps named → ParamListAt ts at next ps named
params_at ts at next ps named o n p = record {
  reads = params_chosen_at ts at next (Mark t.CloseParen ∷ D (d.BehindParams named) ∷ []) p.forth o n p.reads;
  is = st.params named (between ts at next) p.are;
  trees = λ c. tree.params (between ts at next) ps p.trees (not_void_alone ts at next (between ts at next) refl p.forth (let r = p.reads in r.within) n c);
}

-- ---- refusals

params_none_here : (ts : List Lexeme) (at : ℕ) → OtherAt ts at t.CloseParen → NoneAt (D (d.NextParam true)) ts at at → NoneAt (D d.Params) ts at at
params_none_here ts at o n =
    let a = token_there ts at n.within in
    let s = a.1 in
    let x = subst (λ z. Excluded (D (d.NextParam true)) z (drop at ts) (drop at ts)) (between_same ts at) n.excluded in
    record {
      forth = n.forth;
      within = n.within;
      excluded = subst (λ z. Excluded (D d.Params) z (drop at ts) (drop at ts)) (sym (between_same ts at))
          (bar_params_here a.0 (drop at ts) (drop (at + 1) ts) s.here (not_there ts at a.0 t.CloseParen s o) (λ v. params_begun a.0 (drop at ts) (drop (at + 1) ts) s.here v x) x);
    }

params_none_later : (ts : List Lexeme) (at k : ℕ) → at < k → OtherAt ts at t.CloseParen → NoVoidAloneAt ts at → NoneAt (D (d.NextParam true)) ts at k → NoneAt (D d.Params) ts at k
params_none_later ts at k h o v n =
    let g = n.within in
    let w = two_there ts at (omega arith) in
    record {
      forth = n.forth;
      within = n.within;
      excluded = bar_chosen (D d.Params) (D (d.NextParam true)) [] (between ts at k) (drop at ts) (drop k ts) w.0 w.1 (drop ((at + 1) + 1) ts)
          (choose_params w.0 w.1 (not_there ts at w.0 t.CloseParen w.2 o) (λ a b. v.other (is_there ts at w.0 t.Void w.2 a) (is_there ts (at + 1) w.1 t.CloseParen w.3 b)))
          (keeps_decl (D d.Params) (d.NextParam true) [] refl) w.4 (some_between ts at k h (omega arith)) n.excluded;
    }

params_none : (ts : List Lexeme) (at k : ℕ) → OtherAt ts at t.CloseParen → NoVoidAloneAt ts at → NoneAt (D (d.NextParam true)) ts at k → NoneAt (D d.Params) ts at k
params_none ts at k o v n = elim (same_or at k n.forth) as (λ _. NoneAt (D d.Params) ts at k) [
  | inl q ↦ subst (NoneAt (D d.Params) ts at) (sym q) (params_none_here ts at o (subst (NoneAt (D (d.NextParam true)) ts at) q n))
  | inr q ↦ params_none_later ts at k q o v n
]

params_out : (ts : List Lexeme) (at : ℕ) (stop : ExprStop) → OtherAt ts at t.CloseParen → NoVoidAloneAt ts at → IsRefused (D (d.NextParam true)) ts at stop → IsRefused (D d.Params) ts at stop
params_out ts at (Out k) o v h = record {
  none = params_none ts at k o v h.none;
  begun = let b = h.begun in record { todo = b.todo; there = b.there; builds = λ u are. d.some_params (between ts at k ++ u) (b.builds u are) };
}
params_out ts at NoMemory o v h = tt

pub params_refused : (ts : List Lexeme) (at : ℕ) (stop : ExprStop) → OtherAt ts at t.CloseParen → NoVoidAloneAt ts at → RefusedAt (D (d.NextParam true)) ts at stop → RefusedAt (D d.Params) ts at stop
params_refused ts at stop o v h = record { refused = params_out ts at stop o v h.refused }

-- ---- what answers say

pub map_ok : {A X : Type 0} (r : Result A X) (P Q : A → Type 0) → ((a : A) → P a → Q a) → IfOk r P → IfOk r Q
map_ok (Ok a) P Q f h = f a h
map_ok (Err x) P Q f h = tt

pub map_err : {A X : Type 0} (r : Result A X) (P Q : X → Type 0) → ((a : X) → P a → Q a) → IfErr r P → IfErr r Q
map_err (Ok a) P Q f h = tt
map_err (Err x) P Q f h = f x h
