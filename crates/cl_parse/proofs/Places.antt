-- The steps of a reading of declarations by the indices of its tokens.
use Rattle.std.proofs.Common.{◌≡◌, ℕ, ◌+◌, List, [], ◌∷◌, ◌++◌, drop, Bool, true, false, refl, sym, subst, arith}
use Rattle.std.specs.Prelude.{not}
use Rattle.cl_grammar.specs.declared.lexeme.Lexeme.{Lexeme}
use Rattle.cl_grammar.specs.declared.terminal.Terminal.{Terminal}
use Rattle.cl_grammar.specs.declared.terminal.Terminal.TheVariants as t
use Rattle.cl_grammar.specs.declared.stop.ExprStop.{ExprStop}
use Rattle.cl_grammar.specs.declared.stop.ExprStop.TheVariants.{Out, NoMemory}
use Rattle.cl_grammar.specs.Parts.{IsAnySpec, any_spec}
use Rattle.cl_grammar.specs.Symbols as e
use Rattle.cl_grammar.specs.Symbols.{Sym, E, D, Are}
use Rattle.cl_grammar.specs.DeclarationSymbols.{DeclSym}
use Rattle.cl_grammar.specs.Items.{Fits, Item, Excluded, between, IsAt, GoesOn, ReadAt, NoneAt, IsRefused, RefusedAt, IsBarred, BarredAt}
use Rattle.cl_grammar.proofs.TerminalKinds.{kind, has}
use Rattle.cl_grammar.proofs.Predicted.{keeps_ok, row_at, keeps_part}
use Rattle.cl_grammar.proofs.Places.{between_same, goes}
use Rattle.cl_grammar.proofs.DeclarationRules.{decl_rules}
use Rattle.cl_grammar.proofs.DeclarationPredicted.{decl_picks, decl_predict, keeps_decl}

-- ---- declarations as other symbols

-- A reading begins with the row that the token there picks.
pub decl_starts : (y : DeclSym) (n : ℕ) (ts : List Lexeme) (at : ℕ) (k : Terminal) → IsAt ts at k → decl_picks y n (kind k) ≡ true → GoesOn (D y) (row_at n (decl_rules y)) ts at at
decl_starts y n ts at k s h = record {
  forth = omega arith;
  within = s.stands.within;
  item = subst (λ z. Item (D y) (row_at n (decl_rules y)) z (drop at ts) (drop at ts)) (sym (between_same ts at)) (decl_predict y n s.token (drop at ts) (drop (at + 1) ts) s.stands.here (subst (λ z. decl_picks y n (kind z) ≡ true) (sym s.is) h));
}

-- The next symbol goes on with the row that the token there picks.
pub decl_expands : (x : Sym) (y : DeclSym) (todo : List Sym) (n : ℕ) (ts : List Lexeme) (a b : ℕ) (k : Terminal) → GoesOn x (D y ∷ todo) ts a b → IsAt ts b k → decl_picks y n (kind k) ≡ true → keeps_ok x (D y) todo ≡ true → GoesOn x (row_at n (decl_rules y) ++ todo) ts a b
decl_expands x y todo n ts a b k i s h g = goes x (D y) todo (row_at n (decl_rules y)) ts a b b (keeps_decl x y todo g) i (decl_starts y n ts b k s h)

pub then_decl : (x : Sym) (y : DeclSym) (todo rhs : List Sym) (ts : List Lexeme) (a b c : ℕ) → GoesOn x (D y ∷ todo) ts a b → GoesOn (D y) rhs ts b c → keeps_ok x (D y) todo ≡ true → GoesOn x (rhs ++ todo) ts a c
then_decl x y todo rhs ts a b c i r g = goes x (D y) todo rhs ts a b c (keeps_decl x y todo g) i r

pub then_part : (x : Sym) (y : e.ExprSym) (todo : List Sym) (ts : List Lexeme) (a b c : ℕ) → GoesOn x (E y ∷ todo) ts a b → ReadAt (E y) ts b c → keeps_ok x (E y) todo ≡ true → GoesOn x todo ts a c
then_part x y todo ts a b c i r g = goes x (E y) todo [] ts a b c (keeps_part x y todo g) i r.read

-- ---- a type, whether it names a vector or not

any_only : (vector : Bool) (r s s1 : List Lexeme) → Item (E (e.Spec vector)) [] r s s1 → Excluded (E (e.Spec (not vector))) r s s1 → (others : List Sym) → Fits (E e.AnySpec) others → (l : Lexeme) (v w : List Lexeme) → s1 ≡ l ∷ v → (u z : List Lexeme) → IsAnySpec u → Are others z → r ++ l ∷ w ≡ u ++ z → Are others (l ∷ w)
any_only true r s s1 i x others fits l v w first u z (any_spec true _ a) rest e = i.only others (record { stops = fits.stops }) l v w first (u, z, a, rest, e)
any_only false r s s1 i x others fits l v w first u z (any_spec false _ a) rest e = i.only others (record { stops = fits.stops }) l v w first (u, z, a, rest, e)
any_only true r s s1 i x others fits l v w first u z (any_spec false _ a) rest e = absurd (x.no_more others (record { stops = fits.stops }) l v w first (u, z, a, rest, e))
any_only false r s s1 i x others fits l v w first u z (any_spec true _ a) rest e = absurd (x.no_more others (record { stops = fits.stops }) l v w first (u, z, a, rest, e))

any_item : (vector : Bool) (r s s1 : List Lexeme) → Item (E (e.Spec vector)) [] r s s1 → Excluded (E (e.Spec (not vector))) r s s1 → Item (E e.AnySpec) [] r s s1
any_item vector r s s1 i x = record {
  split = i.split;
  builds = λ u are. any_spec vector (r ++ u) (i.builds u are);
  only = λ others fits l v w first are. any_only vector r s s1 i x others fits l v w first are.0 are.1 are.2 are.3 are.4;
}

pub any_read : (vector : Bool) (ts : List Lexeme) (at next : ℕ) → ReadAt (E (e.Spec vector)) ts at next → NoneAt (E (e.Spec (not vector))) ts at next → ReadAt (E e.AnySpec) ts at next
any_read vector ts at next r n = record { read = let i = r.read in record { forth = i.forth; within = i.within; item = any_item vector (between ts at next) (drop at ts) (drop next ts) i.item n.excluded } }

none_of : (r s s1 : List Lexeme) → Excluded (E (e.Spec false)) r s s1 → Excluded (E (e.Spec true)) r s s1 → (others : List Sym) → Fits (E e.AnySpec) others → (l : Lexeme) (v w : List Lexeme) → s1 ≡ l ∷ v → (u z : List Lexeme) → IsAnySpec u → Are others z → r ++ l ∷ w ≡ u ++ z → ⊥
none_of r s s1 x y others fits l v w first u z (any_spec false _ a) rest e = x.no_more others (record { stops = fits.stops }) l v w first (u, z, a, rest, e)
none_of r s s1 x y others fits l v w first u z (any_spec true _ a) rest e = y.no_more others (record { stops = fits.stops }) l v w first (u, z, a, rest, e)

none_any : (r s s1 : List Lexeme) → Excluded (E (e.Spec false)) r s s1 → Excluded (E (e.Spec true)) r s s1 → Excluded (E e.AnySpec) r s s1
none_any r s s1 x y = record {
  split = x.split;
  no_more = λ others fits l v w first are. none_of r s s1 x y others fits l v w first are.0 are.1 are.2 are.3 are.4;
}

out_any : (ts : List Lexeme) (at : ℕ) (stop : ExprStop) → IsRefused (E (e.Spec false)) ts at stop → IsBarred (E (e.Spec true)) ts at stop → IsRefused (E e.AnySpec) ts at stop
out_any ts at (Out k) o b = record {
  none = record { forth = o.none.forth; within = o.none.within; excluded = none_any (between ts at k) (drop at ts) (drop k ts) o.none.excluded b.excluded };
  begun = let g = o.begun in record { todo = g.todo; there = g.there; builds = λ u are. any_spec false (between ts at k ++ u) (g.builds u are) };
}
out_any ts at NoMemory o b = tt

pub any_refused : (ts : List Lexeme) (at : ℕ) (stop : ExprStop) → RefusedAt (E (e.Spec false)) ts at stop → BarredAt (E (e.Spec true)) ts at stop → RefusedAt (E e.AnySpec) ts at stop
any_refused ts at stop r b = record { refused = out_any ts at stop r.refused b.barred }

-- ---- kinds of other tokens

pub no_comma : (m : Terminal) → (m ≡ t.Comma → ⊥) → has (43 ∷ []) (kind m) ≡ false
no_comma t.Comma h = absurd (h refl)
no_comma (t.TypeName true) h = refl
no_comma (t.TypeName false) h = refl
no_comma _ h = refl

pub no_close : (m : Terminal) → (m ≡ t.CloseParen → ⊥) → has (38 ∷ []) (kind m) ≡ false
no_close t.CloseParen h = absurd (h refl)
no_close (t.TypeName true) h = refl
no_close (t.TypeName false) h = refl
no_close _ h = refl

pub no_name : (m : Terminal) → (m ≡ t.Name → ⊥) → has (1 ∷ []) (kind m) ≡ false
no_name t.Name h = absurd (h refl)
no_name (t.TypeName true) h = refl
no_name (t.TypeName false) h = refl
no_name _ h = refl

pub no_semicolon : (m : Terminal) → (m ≡ t.Semicolon → ⊥) → has (44 ∷ []) (kind m) ≡ false
no_semicolon t.Semicolon h = absurd (h refl)
no_semicolon (t.TypeName true) h = refl
no_semicolon (t.TypeName false) h = refl
no_semicolon _ h = refl

pub no_brace : (m : Terminal) → (m ≡ t.OpenBrace → ⊥) → has (41 ∷ []) (kind m) ≡ false
no_brace t.OpenBrace h = absurd (h refl)
no_brace (t.TypeName true) h = refl
no_brace (t.TypeName false) h = refl
no_brace _ h = refl

pub no_open : (m : Terminal) → (m ≡ t.OpenParen → ⊥) → has (37 ∷ []) (kind m) ≡ false
no_open t.OpenParen h = absurd (h refl)
no_open (t.TypeName true) h = refl
no_open (t.TypeName false) h = refl
no_open _ h = refl

pub no_void : (m : Terminal) → (m ≡ t.Void → ⊥) → has (13 ∷ []) (kind m) ≡ false
no_void t.Void h = absurd (h refl)
no_void (t.TypeName true) h = refl
no_void (t.TypeName false) h = refl
no_void _ h = refl

pub no_typedef : (m : Terminal) → (m ≡ t.Typedef → ⊥) → has (4 ∷ []) (kind m) ≡ false
no_typedef t.Typedef h = absurd (h refl)
no_typedef (t.TypeName true) h = refl
no_typedef (t.TypeName false) h = refl
no_typedef _ h = refl

pub no_static : (m : Terminal) → (m ≡ t.Static → ⊥) → has (7 ∷ []) (kind m) ≡ false
no_static t.Static h = absurd (h refl)
no_static (t.TypeName true) h = refl
no_static (t.TypeName false) h = refl
no_static _ h = refl
