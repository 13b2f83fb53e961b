-- The steps of the reading of functions and externals.
use Rattle.std.proofs.Common.{◌≡◌, ℕ, ◌+◌, ◌-◌, ◌≤◌, ◌<◌, List, [], ◌∷◌, ◌++◌, length, drop, Bool, true, false, refl, sym, ap, ◌∙◌, subst, append_assoc, arith, ◌⊎◌, inl, inr}
use Rattle.std.specs.Prelude.{◌&&◌, not, Option, Some, None}
use Rattle.std.specs.Global.{Vec}
use Rattle.std.proofs.lemmas.List.{append-nil}
use Rattle.clv_place.specs.declared.place.Place.{Place}
use Rattle.cl_ast.specs.declared.expression.Spec.{Spec}
use Rattle.cl_ast.specs.declared.declaration.External.{External}
use Rattle.cl_ast.specs.declared.declaration.External.TheVariants as external
use Rattle.cl_ast.specs.declared.declaration.FWord.{FWord}
use Rattle.cl_ast.specs.declared.declaration.Param.{Param}
use Rattle.cl_ast.specs.declared.declaration.InitDeclor.{InitDeclor}
use Rattle.cl_ast.specs.declared.statement.Stmt.{Stmt}
use Rattle.cl_grammar.specs.declared.lexeme.Lexeme.{Lexeme}
use Rattle.cl_grammar.specs.declared.names.TypeName.{TypeName}
use Rattle.cl_grammar.specs.declared.terminal.Terminal.TheVariants as t
use Rattle.cl_grammar.specs.declared.stop.ExprStop.{ExprStop}
use Rattle.cl_grammar.specs.declared.stop.ExprStop.TheVariants.{Out, NoMemory}
use Rattle.cl_grammar.specs.Expressions.{IsA, IsSpec}
use Rattle.cl_grammar.specs.ExpressionTrees.{SpecTree}
use Rattle.cl_grammar.specs.Statements as st
use Rattle.cl_grammar.specs.Statements.{IsExternal, AreWords, MayBeStatic}
use Rattle.cl_grammar.specs.StatementTrees as tree
use Rattle.cl_grammar.specs.StatementTrees.{ParamListTree, WordTrees, BlockTree, InitDeclorTrees, ExternalTree}
use Rattle.cl_grammar.specs.StatementSymbols as x
use Rattle.cl_grammar.specs.Symbols as e
use Rattle.cl_grammar.specs.Symbols.{Sym, Mark, E, S, D, Are, has_some, have_some}
use Rattle.cl_grammar.specs.DeclarationSymbols as d
use Rattle.cl_grammar.specs.DeclarationSymbols.{IsBehindType}
use Rattle.cl_grammar.specs.Items.{Excluded, Begun, between, EndsIn, StandsAt, IsAt, OtherAt, PlaceAt, TextAt, GoesOn, ReadAt, NoneAt, IsRefused, RefusedAt, BarredAt}
use Rattle.cl_grammar.proofs.Steps.{Keeps, are_part, and_first, and_second}
use Rattle.cl_grammar.proofs.Predicted.{keeps_part, keeps_mark}
use Rattle.cl_grammar.proofs.Places.{between_same, between_one, between_join, goes, then_mark, by_other_kinds, done}
use Rattle.cl_grammar.proofs.StatementPlaces.{stops_next}
use Rattle.cl_grammar.proofs.StatementPredicted.{keeps_in}
use Rattle.cl_grammar.proofs.DeclarationRules.{function_made}
use Rattle.cl_grammar.proofs.DeclarationPredicted.{decl_picks, keeps_decl, keeps_names, choose, choose_function, choose_names, bar_chosen, bar_names_here, names_begun, function_begun}
use Rattle.cl_parse.specs.Readings.{EndTree, FunctionTree, BehindTypeTree, BodyAt, NoBodyAt, EndAt, FunctionAt, ParamListAt, CalledAt, NotCalledAt, BehindTypeAt, WordsAt, ExternalAt}
use Rattle.cl_parse.specs.Declaring.{declared_by}
use Rattle.cl_parse.proofs.DeclaredNames.{only_typedefs}
use Rattle.cl_parse.specs.Readings as r
use Rattle.cl_parse.proofs.Places.{decl_starts, then_decl, then_part, any_read, any_refused, no_brace, no_typedef}
use Rattle.cl_parse.proofs.Parameters.{token_there, same_token, between_first, between_last, is_spec, two_there, some_between, is_there, not_there, same_or}

-- ---- the end of a function

body_picked : (ts : List Lexeme) (at : ℕ) (named : Bool) → BodyAt ts at named → GoesOn (D (d.BehindParams named)) (S x.Block ∷ []) ts at at
body_picked ts at true b = decl_starts (d.BehindParams true) 1 ts at t.OpenBrace b.opens refl
body_picked ts at false b = absurd (let f : false ≡ true = b.all in cc)

keeps_body : (named : Bool) → Keeps (D (d.BehindParams named)) (S x.Block) []
keeps_body named = keeps_in (D (d.BehindParams named)) x.Block [] refl refl

pub body_at : (ts : List Lexeme) (at next : ℕ) (named : Bool) (body : Stmt) → BodyAt ts at named → ReadAt (S x.Block) ts at next → BlockTree (between ts at next) body → EndAt ts at next named (Some body)
body_at ts at next named body b g m = record {
  read = done (D (d.BehindParams named)) ts at next (goes (D (d.BehindParams named)) (S x.Block) [] [] ts at at next (keeps_body named) (body_picked ts at named b) g.read);
  tree = r.defined (between ts at next) body m;
}

pub body_refused : (ts : List Lexeme) (at : ℕ) (named : Bool) (stop : ExprStop) → BodyAt ts at named → RefusedAt (S x.Block) ts at stop → RefusedAt (D (d.BehindParams named)) ts at stop
body_refused ts at named stop b h = stops_next (D (d.BehindParams named)) (S x.Block) [] ts at at stop (keeps_body named) (body_picked ts at named b) h refl

end_picked : (ts : List Lexeme) (at : ℕ) (named : Bool) → at < length ts → NoBodyAt ts at named → GoesOn (D (d.BehindParams named)) (Mark t.Semicolon ∷ []) ts at at
end_picked ts at true h n = let o = n.other refl in decl_starts (d.BehindParams true) 0 ts at o.other o.stands (by_other_kinds (41 ∷ []) (decl_picks (d.BehindParams true) 0) o.other refl (no_brace o.other o.differs))
end_picked ts at false h n = let a = token_there ts at h in decl_starts (d.BehindParams false) 0 ts at a.0.terminal (record { token = a.0; stands = a.1; is = refl }) refl

pub end_at : (ts : List Lexeme) (at next : ℕ) (named : Bool) → EndsIn ts → NoBodyAt ts at named → IsAt ts at t.Semicolon → next ≡ at + 1 → EndAt ts at next named None
end_at ts at next named ends n s e = subst (λ z. EndAt ts at z named None) (sym e) (let w = s.stands in record {
  read = done (D (d.BehindParams named)) ts at (at + 1) (then_mark (D (d.BehindParams named)) t.Semicolon [] ts at at ends (end_picked ts at named w.within n) s refl);
  tree = subst (λ z. EndTree z None) (sym (between_one ts at s.token w.here)) (r.declared s.token s.is);
})

pub end_refused : (ts : List Lexeme) (at : ℕ) (named : Bool) (stop : ExprStop) → at < length ts → NoBodyAt ts at named → RefusedAt (Mark t.Semicolon) ts at stop → RefusedAt (D (d.BehindParams named)) ts at stop
end_refused ts at named stop h n f = stops_next (D (d.BehindParams named)) (Mark t.Semicolon) [] ts at at stop (keeps_mark (D (d.BehindParams named)) t.Semicolon []) (end_picked ts at named h n) f refl

-- ---- a function

called_start : (ts : List Lexeme) (at : ℕ) → at < length ts → GoesOn (D d.Function) (Mark t.Name ∷ Mark t.OpenParen ∷ D d.Params ∷ []) ts at at
called_start ts at h = let a = token_there ts at h in decl_starts d.Function 0 ts at a.0.terminal (record { token = a.0; stands = a.1; is = refl }) refl

called_name : (ts : List Lexeme) (at : ℕ) → EndsIn ts → IsAt ts at t.Name → GoesOn (D d.Function) (Mark t.OpenParen ∷ D d.Params ∷ []) ts at (at + 1)
called_name ts at ends n = then_mark (D d.Function) t.Name (Mark t.OpenParen ∷ D d.Params ∷ []) ts at at ends (called_start ts at (let w = n.stands in w.within)) n refl

called_open : (ts : List Lexeme) (at : ℕ) → EndsIn ts → IsAt ts at t.Name → IsAt ts (at + 1) t.OpenParen → GoesOn (D d.Function) (D d.Params ∷ []) ts at ((at + 1) + 1)
called_open ts at ends n o = then_mark (D d.Function) t.OpenParen (D d.Params ∷ []) ts at (at + 1) ends (called_name ts at ends n) o refl

called_params : (ts : List Lexeme) (at mid : ℕ) (ps : List Param) (named : Bool) → EndsIn ts → IsAt ts at t.Name → IsAt ts (at + 1) t.OpenParen → ParamListAt ts ((at + 1) + 1) mid ps named → GoesOn (D d.Function) (Mark t.CloseParen ∷ D (d.BehindParams named) ∷ []) ts at mid
called_params ts at mid ps named ends n o p = then_decl (D d.Function) d.Params [] (Mark t.CloseParen ∷ D (d.BehindParams named) ∷ []) ts at ((at + 1) + 1) mid (called_open ts at ends n o) p.reads refl

called_close : (ts : List Lexeme) (at mid : ℕ) (ps : List Param) (named : Bool) → EndsIn ts → IsAt ts at t.Name → IsAt ts (at + 1) t.OpenParen → ParamListAt ts ((at + 1) + 1) mid ps named → IsAt ts mid t.CloseParen → GoesOn (D d.Function) (D (d.BehindParams named) ∷ []) ts at (mid + 1)
called_close ts at mid ps named ends n o p c = then_mark (D d.Function) t.CloseParen (D (d.BehindParams named) ∷ []) ts at mid ends (called_params ts at mid ps named ends n o p) c refl

pub refused_name : (ts : List Lexeme) (at : ℕ) (stop : ExprStop) → at < length ts → RefusedAt (Mark t.Name) ts at stop → RefusedAt (D d.Function) ts at stop
refused_name ts at stop h f = stops_next (D d.Function) (Mark t.Name) (Mark t.OpenParen ∷ D d.Params ∷ []) ts at at stop (keeps_mark (D d.Function) t.Name (Mark t.OpenParen ∷ D d.Params ∷ [])) (called_start ts at h) f refl

pub refused_open : (ts : List Lexeme) (at i : ℕ) (stop : ExprStop) → EndsIn ts → i ≡ at + 1 → IsAt ts at t.Name → RefusedAt (Mark t.OpenParen) ts i stop → RefusedAt (D d.Function) ts at stop
refused_open ts at i stop ends e n f = stops_next (D d.Function) (Mark t.OpenParen) (D d.Params ∷ []) ts at (at + 1) stop (keeps_mark (D d.Function) t.OpenParen (D d.Params ∷ [])) (called_name ts at ends n) (subst (λ z. RefusedAt (Mark t.OpenParen) ts z stop) e f) refl

pub refused_params : (ts : List Lexeme) (at i j : ℕ) (stop : ExprStop) → EndsIn ts → i ≡ at + 1 → j ≡ i + 1 → IsAt ts at t.Name → IsAt ts i t.OpenParen → RefusedAt (D d.Params) ts j stop → RefusedAt (D d.Function) ts at stop
refused_params ts at i j stop ends e g n o f =
    let both : j ≡ (at + 1) + 1 = g ∙ ap (λ z. z + 1) e in
    stops_next (D d.Function) (D d.Params) [] ts at ((at + 1) + 1) stop (keeps_decl (D d.Function) d.Params [] refl) (called_open ts at ends n (subst (λ z. IsAt ts z t.OpenParen) e o)) (subst (λ z. RefusedAt (D d.Params) ts z stop) both f) refl

pub refused_close : (ts : List Lexeme) (at i j mid : ℕ) (ps : List Param) (named : Bool) (stop : ExprStop) → EndsIn ts → i ≡ at + 1 → j ≡ i + 1 → IsAt ts at t.Name → IsAt ts i t.OpenParen → ParamListAt ts j mid ps named → RefusedAt (Mark t.CloseParen) ts mid stop → RefusedAt (D d.Function) ts at stop
refused_close ts at i j mid ps named stop ends e g n o p f =
    let both : j ≡ (at + 1) + 1 = g ∙ ap (λ z. z + 1) e in
    stops_next (D d.Function) (Mark t.CloseParen) (D (d.BehindParams named) ∷ []) ts at mid stop (keeps_mark (D d.Function) t.CloseParen (D (d.BehindParams named) ∷ []))
    (called_params ts at mid ps named ends n (subst (λ z. IsAt ts z t.OpenParen) e o) (subst (λ z. ParamListAt ts z mid ps named) both p)) f refl

pub refused_end : (ts : List Lexeme) (at i j mid k : ℕ) (ps : List Param) (named : Bool) (stop : ExprStop) → EndsIn ts → i ≡ at + 1 → j ≡ i + 1 → k ≡ mid + 1 → IsAt ts at t.Name → IsAt ts i t.OpenParen → ParamListAt ts j mid ps named → IsAt ts mid t.CloseParen → RefusedAt (D (d.BehindParams named)) ts k stop → RefusedAt (D d.Function) ts at stop
refused_end ts at i j mid k ps named stop ends e g h n o p c f =
    let both : j ≡ (at + 1) + 1 = g ∙ ap (λ z. z + 1) e in
    stops_next (D d.Function) (D (d.BehindParams named)) [] ts at (mid + 1) stop (keeps_decl (D d.Function) (d.BehindParams named) [] refl)
    (called_close ts at mid ps named ends n (subst (λ z. IsAt ts z t.OpenParen) e o) (subst (λ z. ParamListAt ts z mid ps named) both p) c) (subst (λ z. RefusedAt (D (d.BehindParams named)) ts z stop) h f) refl

function_split : (ts : List Lexeme) (at mid next : ℕ) (n o c : Lexeme) → StandsAt ts at n → StandsAt ts (at + 1) o → (at + 1) + 1 ≤ mid → StandsAt ts mid c → mid + 1 ≤ next → n ∷ o ∷ (between ts ((at + 1) + 1) mid ++ c ∷ between ts (mid + 1) next) ≡ between ts at next
function_split ts at mid next n o c a b h g k =
    sym (between_first ts at next n a (omega arith) ∙ ap (λ z. n ∷ z) (between_first ts (at + 1) next o b (omega arith)
    ∙ ap (λ z. o ∷ z) (sym (between_join ts ((at + 1) + 1) mid next h (omega arith)) ∙ ap (λ z. between ts ((at + 1) + 1) mid ++ z) (between_first ts mid next c g (omega arith)))))

function_here : (ts : List Lexeme) (at mid next : ℕ) (ps : List Param) (named : Bool) (text : List ℕ) (place : Place) (body : Option Stmt) → EndsIn ts → IsAt ts at t.Name → TextAt ts at text → PlaceAt ts at place → IsAt ts (at + 1) t.OpenParen → ParamListAt ts ((at + 1) + 1) mid ps named → IsAt ts mid t.CloseParen → EndAt ts (mid + 1) next named body → FunctionAt ts at next text place ps body
function_here ts at mid next ps named text place body ends n tx pl o p c b =
    let sx = same_token ts at tx.token n.token tx.stands n.stands in
    let sy = same_token ts at pl.token n.token pl.stands n.stands in
    let f = let q = p.reads in q.forth in
    let g = let q = b.read in let i = q.read in i.forth in
    let means : FunctionTree (between ts at next) n.token.text n.token.place ps body =
    subst (λ z. FunctionTree z n.token.text n.token.place ps body) (function_split ts at mid next n.token o.token c.token n.stands o.stands f c.stands g)
    (r.function n.token o.token c.token (between ts ((at + 1) + 1) mid) (between ts (mid + 1) next) ps body n.is o.is (p.trees c) c.is b.tree) in
    record {
      forth = omega arith;
      read = done (D d.Function) ts at next (then_decl (D d.Function) (d.BehindParams named) [] [] ts at (mid + 1) next (called_close ts at mid ps named ends n o p c) (let q = b.read in q.read) refl);
      tree = subst (λ z. FunctionTree (between ts at next) text z ps body) (sym (ap (λ l. l.place) sy) ∙ pl.is) (subst (λ z. FunctionTree (between ts at next) z n.token.place ps body) (sym (ap (λ l. l.text) sx) ∙ tx.is) means);
    }

pub function_at : (ts : List Lexeme) (at i j mid k next : ℕ) (ps : List Param) (named : Bool) (text : List ℕ) (place : Place) (body : Option Stmt) → EndsIn ts → i ≡ at + 1 → j ≡ i + 1 → k ≡ mid + 1 → IsAt ts at t.Name → TextAt ts at text → PlaceAt ts at place → IsAt ts i t.OpenParen → ParamListAt ts j mid ps named → IsAt ts mid t.CloseParen → EndAt ts k next named body → FunctionAt ts at next text place ps body
function_at ts at i j mid k next ps named text place body ends e g h n tx pl o p c b =
    let both : j ≡ (at + 1) + 1 = g ∙ ap (λ z. z + 1) e in
    function_here ts at mid next ps named text place body ends n tx pl (subst (λ z. IsAt ts z t.OpenParen) e o) (subst (λ z. ParamListAt ts z mid ps named) both p) c (subst (λ z. EndAt ts z next named body) h b)

-- ---- what stands behind a type

function_only : (lone variables : Bool) (u : List Lexeme) → Are (D d.Function ∷ []) u → IsBehindType lone variables u
function_only lone variables u are = subst (IsBehindType lone variables) (sym (are.4 ∙ ap (λ z. are.0 ++ z) are.3 ∙ append-nil are.0)) (d.of_function lone variables are.0 are.2)

called_chosen : (ts : List Lexeme) (at next : ℕ) (lone variables : Bool) → at < next → CalledAt ts at → GoesOn (D d.Function) [] ts at next → GoesOn (D (d.BehindType lone variables)) [] ts at next
called_chosen ts at next lone variables h c g =
    let n = c.name in
    let o = c.opens in
    let a = n.stands in
    let b = o.stands in
    record {
      forth = g.forth;
      within = g.within;
      item = choose (D (d.BehindType lone variables)) (D d.Function) [] [] (between ts at next) (drop at ts) (drop next ts) n.token o.token (drop ((at + 1) + 1) ts)
          (choose_function lone variables n.token o.token n.is o.is) (λ u are. function_only lone variables u are) (keeps_decl (D (d.BehindType lone variables)) d.Function [] refl)
          (a.here ∙ ap (λ z. n.token ∷ z) b.here) (some_between ts at next h a.within) g.item;
    }

-- variables may not stand there
function_alone : (ts : List Lexeme) (at : ℕ) (lone : Bool) → at < length ts → GoesOn (D (d.BehindType lone false)) (D d.Function ∷ []) ts at at
function_alone ts at true h = let a = token_there ts at h in decl_starts (d.BehindType true false) 0 ts at a.0.terminal (record { token = a.0; stands = a.1; is = refl }) refl
function_alone ts at false h = let a = token_there ts at h in decl_starts (d.BehindType false false) 0 ts at a.0.terminal (record { token = a.0; stands = a.1; is = refl }) refl

function_read : (ts : List Lexeme) (at next : ℕ) (lone variables : Bool) → at < next → (variables ≡ false) ⊎ CalledAt ts at → ReadAt (D d.Function) ts at next → ReadAt (D (d.BehindType lone variables)) ts at next
function_read ts at next lone variables h (inr c) g = done (D (d.BehindType lone variables)) ts at next (called_chosen ts at next lone variables h c g.read)
function_read ts at next lone true h (inl e) g = absurd (let f : true ≡ false = e in cc)
function_read ts at next lone false h (inl e) g =
    let i = g.read in
    done (D (d.BehindType lone false)) ts at next (then_decl (D (d.BehindType lone false)) d.Function [] [] ts at at next (function_alone ts at lone (let w = i.within in omega arith)) i refl)

pub function_behind : (ts : List Lexeme) (at next : ℕ) (lone variables : Bool) (words : Vec FWord) (spec : Spec) (name : List ℕ) (place : Place) (params : Vec Param) (body : Option Stmt) → (variables ≡ false) ⊎ CalledAt ts at → FunctionAt ts at next name place params.items body → BehindTypeAt ts at next lone variables words spec (external.Function words spec name place params body)
function_behind ts at next lone variables words spec name place params body c f = record {
  forth = f.forth;
  read = function_read ts at next lone variables f.forth c f.read;
  means = r.called lone variables (between ts at next) words spec name place params body f.tree;
}

function_none : (ts : List Lexeme) (at k : ℕ) (lone variables : Bool) → CalledAt ts at → NoneAt (D d.Function) ts at k → NoneAt (D (d.BehindType lone variables)) ts at k
function_none ts at k lone variables c n =
    let a = c.name in
    let o = c.opens in
    let s = a.stands in
    let q = o.stands in
    elim (same_or at k n.forth) as (λ _. NoneAt (D (d.BehindType lone variables)) ts at k) [
      | inl e ↦ absurd (function_begun a.token (drop at ts) (drop (at + 1) ts) s.here a.is
          (subst (λ z. Excluded (D d.Function) z (drop at ts) (drop at ts)) (between_same ts at) (let m = subst (NoneAt (D d.Function) ts at) e n in m.excluded)))
      | inr h ↦ record {
        forth = n.forth;
        within = n.within;
        excluded = bar_chosen (D (d.BehindType lone variables)) (D d.Function) [] (between ts at k) (drop at ts) (drop k ts) a.token o.token (drop ((at + 1) + 1) ts)
            (choose_function lone variables a.token o.token a.is o.is) (keeps_decl (D (d.BehindType lone variables)) d.Function [] refl)
            (s.here ∙ ap (λ z. a.token ∷ z) q.here) (some_between ts at k h s.within) n.excluded;
      }
    ]

function_out : (ts : List Lexeme) (at : ℕ) (lone variables : Bool) (stop : ExprStop) → CalledAt ts at → IsRefused (D d.Function) ts at stop → IsRefused (D (d.BehindType lone variables)) ts at stop
function_out ts at lone variables (Out k) c h = record {
  none = function_none ts at k lone variables c h.none;
  begun = let b = h.begun in record { todo = b.todo; there = b.there; builds = λ u are. d.of_function lone variables (between ts at k ++ u) (b.builds u are) };
}
function_out ts at lone variables NoMemory c h = tt

pub function_refused : (ts : List Lexeme) (at : ℕ) (lone variables : Bool) (stop : ExprStop) → at < length ts → (variables ≡ false) ⊎ CalledAt ts at → RefusedAt (D d.Function) ts at stop → RefusedAt (D (d.BehindType lone variables)) ts at stop
function_refused ts at lone variables stop h (inr c) f = record { refused = function_out ts at lone variables stop c f.refused }
function_refused ts at lone true stop h (inl e) f = absurd (let g : true ≡ false = e in cc)
function_refused ts at lone false stop h (inl e) f = stops_next (D (d.BehindType lone false)) (D d.Function) [] ts at at stop (keeps_decl (D (d.BehindType lone false)) d.Function [] refl) (function_alone ts at lone h) f refl

-- a type alone
pub type_alone_at : (ts : List Lexeme) (at next : ℕ) (lone variables : Bool) (words : Vec FWord) (spec : Spec) → EndsIn ts → variables ≡ true → lone ≡ true → IsAt ts at t.Semicolon → next ≡ at + 1 → BehindTypeAt ts at next lone variables words spec (external.Struct spec)
type_alone_at ts at next true true words spec ends a b s e = subst (λ z. BehindTypeAt ts at z true true words spec (external.Struct spec)) (sym e) (record {
  forth = omega arith;
  read = done (D (d.BehindType true true)) ts at (at + 1) (then_mark (D (d.BehindType true true)) t.Semicolon [] ts at at ends (decl_starts (d.BehindType true true) 0 ts at t.Semicolon s refl) s refl);
  means = let w = s.stands in subst (λ z. BehindTypeTree true true z words spec (external.Struct spec)) (sym (between_one ts at s.token w.here)) (r.type_alone s.token words spec s.is);
})
type_alone_at ts at next true false words spec ends a b s e = absurd (let f : false ≡ true = a in cc)
type_alone_at ts at next false variables words spec ends a b s e = absurd (let f : false ≡ true = b in cc)

pub type_alone_refused : (ts : List Lexeme) (at : ℕ) (lone variables : Bool) (stop : ExprStop) → variables ≡ true → lone ≡ true → IsAt ts at t.Semicolon → RefusedAt (Mark t.Semicolon) ts at stop → RefusedAt (D (d.BehindType lone variables)) ts at stop
type_alone_refused ts at true true stop a b s f = stops_next (D (d.BehindType true true)) (Mark t.Semicolon) [] ts at at stop (keeps_mark (D (d.BehindType true true)) t.Semicolon []) (decl_starts (d.BehindType true true) 0 ts at t.Semicolon s refl) f refl
type_alone_refused ts at true false stop a b s f = absurd (let e : false ≡ true = a in cc)
type_alone_refused ts at false variables stop a b s f = absurd (let e : false ≡ true = b in cc)

-- variables
names_only : (lone : Bool) (u : List Lexeme) → Are (S x.InitDeclors ∷ Mark t.Semicolon ∷ []) u → IsBehindType lone true u
names_only lone u are =
    let b = are.3 in
    let m = b.2 in
    subst (IsBehindType lone true) (sym (are.4 ∙ ap (λ z. are.0 ++ z) (b.4 ∙ ap (λ z. z ++ b.1) m.alone ∙ ap (λ z. m.token ∷ z) b.3))) (d.names lone m.token are.0 are.2 m.stands)

no_type : (ts : List Lexeme) (at : ℕ) (l : Lexeme) (lone : Bool) → StandsAt ts at l → (lone ≡ true → OtherAt ts at t.Semicolon) → lone ≡ true → IsA t.Semicolon l → ⊥
no_type ts at l lone s f e a = not_there ts at l t.Semicolon s (f e) a

names_read : (ts : List Lexeme) (at mid : ℕ) (lone : Bool) → at < mid → NotCalledAt ts at → (lone ≡ true → OtherAt ts at t.Semicolon) → ReadAt (S x.InitDeclors) ts at mid → GoesOn (D (d.BehindType lone true)) (Mark t.Semicolon ∷ []) ts at mid
names_read ts at mid lone h n f g =
    let i = g.read in
    let w = two_there ts at (let k = i.within in omega arith) in
    record {
      forth = i.forth;
      within = i.within;
      item = choose (D (d.BehindType lone true)) (S x.InitDeclors) (Mark t.Semicolon ∷ []) [] (between ts at mid) (drop at ts) (drop mid ts) w.0 w.1 (drop ((at + 1) + 1) ts)
          (choose_names lone true w.0 w.1 (no_type ts at w.0 lone w.2 f) (λ a b. n.other (is_there ts at w.0 t.Name w.2 a) (is_there ts (at + 1) w.1 t.OpenParen w.3 b)))
          (λ u are. names_only lone u are) (keeps_names lone true) w.4 (some_between ts at mid h (let k = i.within in omega arith)) i.item;
    }

names_here : (ts : List Lexeme) (at mid : ℕ) (lone : Bool) (words : Vec FWord) (spec : Spec) (items : Vec InitDeclor) → EndsIn ts → at < mid → NotCalledAt ts at → (lone ≡ true → OtherAt ts at t.Semicolon) → ReadAt (S x.InitDeclors) ts at mid → InitDeclorTrees (between ts at mid) items.items → IsAt ts mid t.Semicolon → BehindTypeAt ts at (mid + 1) lone true words spec (external.Constant spec items)
names_here ts at mid lone words spec items ends h n f g a s = record {
  forth = omega arith;
  read = done (D (d.BehindType lone true)) ts at (mid + 1) (then_mark (D (d.BehindType lone true)) t.Semicolon [] ts at mid ends (names_read ts at mid lone h n f g) s refl);
  means = subst (λ z. BehindTypeTree lone true z words spec (external.Constant spec items)) (sym (between_last ts at mid s.token s.stands (omega arith))) (r.names lone s.token (between ts at mid) items words spec a s.is);
}

pub names_at : (ts : List Lexeme) (at mid next : ℕ) (lone variables : Bool) (words : Vec FWord) (spec : Spec) (items : Vec InitDeclor) → EndsIn ts → variables ≡ true → next ≡ mid + 1 → at < mid → NotCalledAt ts at → (lone ≡ true → OtherAt ts at t.Semicolon) → ReadAt (S x.InitDeclors) ts at mid → InitDeclorTrees (between ts at mid) items.items → IsAt ts mid t.Semicolon → BehindTypeAt ts at next lone variables words spec (external.Constant spec items)
names_at ts at mid next lone true words spec items ends v e h n f g a s = subst (λ z. BehindTypeAt ts at z lone true words spec (external.Constant spec items)) (sym e) (names_here ts at mid lone words spec items ends h n f g a s)
names_at ts at mid next lone false words spec items ends v e h n f g a s = absurd (let q : false ≡ true = v in cc)

pub semicolon_refused : (ts : List Lexeme) (at mid : ℕ) (lone variables : Bool) (stop : ExprStop) → variables ≡ true → at < mid → NotCalledAt ts at → (lone ≡ true → OtherAt ts at t.Semicolon) → ReadAt (S x.InitDeclors) ts at mid → RefusedAt (Mark t.Semicolon) ts mid stop → RefusedAt (D (d.BehindType lone variables)) ts at stop
semicolon_refused ts at mid lone true stop v h n f g a = stops_next (D (d.BehindType lone true)) (Mark t.Semicolon) [] ts at mid stop (keeps_mark (D (d.BehindType lone true)) t.Semicolon []) (names_read ts at mid lone h n f g) a refl
semicolon_refused ts at mid lone false stop v h n f g a = absurd (let q : false ≡ true = v in cc)

names_none_here : (ts : List Lexeme) (at : ℕ) (lone : Bool) → (lone ≡ true → OtherAt ts at t.Semicolon) → NoneAt (S x.InitDeclors) ts at at → NoneAt (D (d.BehindType lone true)) ts at at
names_none_here ts at lone f n =
    let a = token_there ts at n.within in
    let s = a.1 in
    let y = subst (λ z. Excluded (S x.InitDeclors) z (drop at ts) (drop at ts)) (between_same ts at) n.excluded in
    record {
      forth = n.forth;
      within = n.within;
      excluded = subst (λ z. Excluded (D (d.BehindType lone true)) z (drop at ts) (drop at ts)) (sym (between_same ts at))
          (bar_names_here lone true a.0 (drop at ts) (drop (at + 1) ts) s.here (no_type ts at a.0 lone s f) (λ v. names_begun a.0 (drop at ts) (drop (at + 1) ts) s.here v y) y);
    }

names_none_later : (ts : List Lexeme) (at k : ℕ) (lone : Bool) → at < k → NotCalledAt ts at → (lone ≡ true → OtherAt ts at t.Semicolon) → NoneAt (S x.InitDeclors) ts at k → NoneAt (D (d.BehindType lone true)) ts at k
names_none_later ts at k lone h c f n =
    let g = n.within in
    let w = two_there ts at (omega arith) in
    record {
      forth = n.forth;
      within = n.within;
      excluded = bar_chosen (D (d.BehindType lone true)) (S x.InitDeclors) (Mark t.Semicolon ∷ []) (between ts at k) (drop at ts) (drop k ts) w.0 w.1 (drop ((at + 1) + 1) ts)
          (choose_names lone true w.0 w.1 (no_type ts at w.0 lone w.2 f) (λ a b. c.other (is_there ts at w.0 t.Name w.2 a) (is_there ts (at + 1) w.1 t.OpenParen w.3 b)))
          (keeps_names lone true) w.4 (some_between ts at k h (omega arith)) n.excluded;
    }

names_none : (ts : List Lexeme) (at k : ℕ) (lone : Bool) → NotCalledAt ts at → (lone ≡ true → OtherAt ts at t.Semicolon) → NoneAt (S x.InitDeclors) ts at k → NoneAt (D (d.BehindType lone true)) ts at k
names_none ts at k lone c f n = elim (same_or at k n.forth) as (λ _. NoneAt (D (d.BehindType lone true)) ts at k) [
  | inl q ↦ subst (NoneAt (D (d.BehindType lone true)) ts at) (sym q) (names_none_here ts at lone f (subst (NoneAt (S x.InitDeclors) ts at) q n))
  | inr q ↦ names_none_later ts at k lone q c f n
]

both_true : (a b : Bool) → a ≡ true → b ≡ true → (a && b) ≡ true
both_true true b h e = e
both_true false b h e = h

have_ending : (xs : List Sym) → have_some xs ≡ true → have_some (xs ++ Mark t.Semicolon ∷ []) ≡ true
have_ending [] h = refl
have_ending (y ∷ ys) h = both_true (has_some y) (have_some (ys ++ Mark t.Semicolon ∷ [])) (and_first (has_some y) (have_some ys) h) (have_ending ys (and_second (has_some y) (have_some ys) h))

-- Names that were begun make variables with the rest of them and a `;`.
names_begin : (lone : Bool) (read : List Lexeme) → Begun (S x.InitDeclors) read → Begun (D (d.BehindType lone true)) read
names_begin lone read b = record {
  todo = b.todo ++ Mark t.Semicolon ∷ [];
  there = have_ending b.todo b.there;
  builds = λ u are.
      let p = are_part b.todo (Mark t.Semicolon ∷ []) u are in
      subst (IsBehindType lone true) (append_assoc read p.0 p.1 ∙ ap (λ z. read ++ z) (sym p.4)) (names_only lone ((read ++ p.0) ++ p.1) (read ++ p.0, p.1, b.builds p.0 p.2, p.3, refl));
}

names_out : (ts : List Lexeme) (at : ℕ) (lone : Bool) (stop : ExprStop) → NotCalledAt ts at → (lone ≡ true → OtherAt ts at t.Semicolon) → IsRefused (S x.InitDeclors) ts at stop → IsRefused (D (d.BehindType lone true)) ts at stop
names_out ts at lone (Out k) c f h = record { none = names_none ts at k lone c f h.none; begun = names_begin lone (between ts at k) h.begun }
names_out ts at lone NoMemory c f h = tt

pub names_refused : (ts : List Lexeme) (at : ℕ) (lone variables : Bool) (stop : ExprStop) → variables ≡ true → NotCalledAt ts at → (lone ≡ true → OtherAt ts at t.Semicolon) → RefusedAt (S x.InitDeclors) ts at stop → RefusedAt (D (d.BehindType lone variables)) ts at stop
names_refused ts at lone true stop v c f h = record { refused = names_out ts at lone stop c f h.refused }
names_refused ts at lone false stop v c f h = absurd (let q : false ≡ true = v in cc)

-- ---- an external that is no typedef

external_start : (ts : List Lexeme) (at : ℕ) → OtherAt ts at t.Typedef → GoesOn (D d.External) (D (d.Words true true) ∷ []) ts at at
external_start ts at o = decl_starts d.External 1 ts at o.other o.stands (by_other_kinds (4 ∷ []) (decl_picks d.External 1) o.other refl (no_typedef o.other o.differs))

external_words : (ts : List Lexeme) (at m : ℕ) (words : List FWord) (lone variables : Bool) → OtherAt ts at t.Typedef → WordsAt ts at m words lone variables → GoesOn (D d.External) (E e.AnySpec ∷ D (d.BehindType lone variables) ∷ []) ts at m
external_words ts at m words lone variables o w = then_decl (D d.External) (d.Words true true) [] (E e.AnySpec ∷ D (d.BehindType lone variables) ∷ []) ts at at m (external_start ts at o) w.reads refl

external_typed : (ts : List Lexeme) (at m k : ℕ) (words : List FWord) (lone variables vector : Bool) → OtherAt ts at t.Typedef → WordsAt ts at m words lone variables → ReadAt (E (e.Spec vector)) ts m k → NoneAt (E (e.Spec (not vector))) ts m k → GoesOn (D d.External) (D (d.BehindType lone variables) ∷ []) ts at k
external_typed ts at m k words lone variables vector o w g n = then_part (D d.External) e.AnySpec (D (d.BehindType lone variables) ∷ []) ts at m k (external_words ts at m words lone variables o w) (any_read vector ts m k g n) refl

external_is : (vector lone variables : Bool) (u v w : List Lexeme) → AreWords u → (lone ≡ true → u ≡ []) → (variables ≡ true → MayBeStatic u) → IsSpec vector v → IsBehindType lone variables w → IsExternal [] (u ++ (v ++ w))
external_is vector _ _ u v _ a alone few b (d.type_alone k h) = subst (λ z. IsExternal [] (z ++ (v ++ k ∷ []))) (sym (alone refl)) (st.types vector k v b h)
external_is vector _ _ u v _ a alone few b (d.names _ k w c h) = st.constants vector k u v w (few refl) b c h
external_is vector lone variables u v w a alone few b (d.of_function _ _ _ f) = function_made vector u v w a b f

ending_means : (u v : List Lexeme) (n o : Lexeme) (p : List Lexeme) (c : Lexeme) (q : List Lexeme) (words : Vec FWord) (spec : Spec) (params : Vec Param) (body : Option Stmt) → WordTrees u words.items → SpecTree v spec → IsA t.Name n → IsA t.OpenParen o → ParamListTree p params.items → IsA t.CloseParen c → EndTree q body → ExternalTree (u ++ (v ++ n ∷ o ∷ (p ++ c ∷ q))) (external.Function words spec n.text n.place params body)
ending_means u v n o p c _ words spec params _ a b h i k l (r.declared z f) = tree.declared n o c z u v p words spec params a b h i k l f
ending_means u v n o p c _ words spec params _ a b h i k l (r.defined z body f) = tree.defined n o c u v p z words spec params body a b h i k l f

function_means : (u v w : List Lexeme) (words : Vec FWord) (spec : Spec) (name : List ℕ) (place : Place) (params : Vec Param) (body : Option Stmt) → WordTrees u words.items → SpecTree v spec → FunctionTree w name place params.items body → ExternalTree (u ++ (v ++ w)) (external.Function words spec name place params body)
function_means u v _ words spec _ _ params _ a b (r.function n o c p q _ body h i k l f) = ending_means u v n o p c q words spec params body a b h i k l f

external_means : (lone variables : Bool) (u v w : List Lexeme) (words : Vec FWord) (spec : Spec) (whole : External) → WordTrees u words.items → (lone ≡ true → u ≡ []) → (variables ≡ true → MayBeStatic u) → SpecTree v spec → BehindTypeTree lone variables w words spec whole → ExternalTree (u ++ (v ++ w)) whole
external_means _ _ u v _ words spec _ a alone few b (r.type_alone k _ _ h) = subst (λ z. ExternalTree (z ++ (v ++ k ∷ [])) (external.Struct spec)) (sym (alone refl)) (tree.types k v spec b h)
external_means _ _ u v _ words spec _ a alone few b (r.names _ k w items _ _ c h) = tree.constants k u v w spec items (few refl) b c h
external_means _ _ u v w words spec _ a alone few b (r.called _ _ _ _ _ name place params body f) = function_means u v w words spec name place params body a b f

nothing_declared : (lone variables : Bool) (w : List Lexeme) (words : Vec FWord) (spec : Spec) (whole : External) → BehindTypeTree lone variables w words spec whole → [] ≡ declared_by whole false
nothing_declared _ _ _ words spec _ (r.type_alone k _ _ h) = refl
nothing_declared _ _ _ words spec _ (r.names _ k w items _ _ c h) = refl
nothing_declared _ _ _ words spec _ (r.called _ _ _ _ _ name place params body f) = refl

is_behind : (lone variables : Bool) (ts : List Lexeme) (at next : ℕ) → ReadAt (D (d.BehindType lone variables)) ts at next → IsBehindType lone variables (between ts at next)
is_behind lone variables ts at next g = let i = g.read in let j = i.item in subst (IsBehindType lone variables) (append-nil (between ts at next)) (j.builds [] refl)

first_no_typedef : (ts : List Lexeme) (at next : ℕ) (d : List TypeName) → OtherAt ts at t.Typedef → at < next → IsExternal d (between ts at next) → d ≡ []
first_no_typedef ts at next d o h a =
    let q = o.stands in
    only_typedefs d (between ts at next) q.token (between ts (at + 1) next) a (between_first ts at next q.token q.stands h) (λ f. o.differs (sym q.is ∙ f))

pub external_at : (ts : List Lexeme) (at m k next : ℕ) (words : Vec FWord) (lone variables vector : Bool) (spec : Spec) (whole : External) → OtherAt ts at t.Typedef → WordsAt ts at m words.items lone variables → m < k → ReadAt (E (e.Spec vector)) ts m k → NoneAt (E (e.Spec (not vector))) ts m k → SpecTree (between ts m k) spec → BehindTypeAt ts k next lone variables words spec whole → ExternalAt ts at next whole false
external_at ts at m k next words lone variables vector spec whole o w h g n s b =
    let f = let q = w.reads in q.forth in
    let i = b.forth in
    let split : between ts at m ++ (between ts m k ++ between ts k next) ≡ between ts at next = ap (λ z. between ts at m ++ z) (between_join ts m k next (omega arith) (omega arith)) ∙ between_join ts at m next f (omega arith) in
    record {
      forth = omega arith;
      read = done (D d.External) ts at next (then_decl (D d.External) (d.BehindType lone variables) [] [] ts at k next (external_typed ts at m k words.items lone variables vector o w g n) (let q = b.read in q.read) refl);
      declares = record {
        is = subst (λ z. IsExternal z (between ts at next)) (nothing_declared lone variables (between ts k next) words spec whole b.means)
            (subst (IsExternal []) split (external_is vector lone variables (between ts at m) (between ts m k) (between ts k next) w.are w.alone w.few (is_spec vector ts m k g) (is_behind lone variables ts k next b.read)));
        same = λ d a. first_no_typedef ts at next d o (omega arith) a ∙ nothing_declared lone variables (between ts k next) words spec whole b.means;
      };
      means = subst (λ z. ExternalTree z whole) split (external_means lone variables (between ts at m) (between ts m k) (between ts k next) words spec whole w.trees w.alone w.few s b.means);
    }

pub words_refused : (ts : List Lexeme) (at : ℕ) (stop : ExprStop) → OtherAt ts at t.Typedef → RefusedAt (D (d.Words true true)) ts at stop → RefusedAt (D d.External) ts at stop
words_refused ts at stop o f = stops_next (D d.External) (D (d.Words true true)) [] ts at at stop (keeps_decl (D d.External) (d.Words true true) [] refl) (external_start ts at o) f refl

pub type_refused : (ts : List Lexeme) (at m : ℕ) (words : List FWord) (lone variables : Bool) (stop : ExprStop) → OtherAt ts at t.Typedef → WordsAt ts at m words lone variables → RefusedAt (E (e.Spec false)) ts m stop → BarredAt (E (e.Spec true)) ts m stop → RefusedAt (D d.External) ts at stop
type_refused ts at m words lone variables stop o w f b = stops_next (D d.External) (E e.AnySpec) (D (d.BehindType lone variables) ∷ []) ts at m stop (keeps_part (D d.External) e.AnySpec (D (d.BehindType lone variables) ∷ []) refl) (external_words ts at m words lone variables o w) (any_refused ts m stop f b) refl

pub behind_refused : (ts : List Lexeme) (at m k : ℕ) (words : List FWord) (lone variables vector : Bool) (stop : ExprStop) → OtherAt ts at t.Typedef → WordsAt ts at m words lone variables → ReadAt (E (e.Spec vector)) ts m k → NoneAt (E (e.Spec (not vector))) ts m k → RefusedAt (D (d.BehindType lone variables)) ts k stop → RefusedAt (D d.External) ts at stop
behind_refused ts at m k words lone variables vector stop o w g n f = stops_next (D d.External) (D (d.BehindType lone variables)) [] ts at k stop (keeps_decl (D d.External) (d.BehindType lone variables) [] refl) (external_typed ts at m k words lone variables vector o w g n) f refl
