-- How a unit goes on, from what is known of one external at a time.
use Rattle.std.proofs.Common.{◌≡◌, suc, Bool, true, false, List, [], ◌∷◌, ◌++◌, length, refl, sym, ap, ◌∙◌, subst, append_assoc, arith, length-append}
use Rattle.std.specs.Prelude.{if◌then◌else◌, Option, Some, None}
use Rattle.std.proofs.lemmas.List.{append-nil, map-append, length-map}
use Rattle.cl_ast.specs.declared.declaration.External.{External as Tree}
use Rattle.cl_grammar.specs.declared.lexeme.Lexeme.{Lexeme}
use Rattle.cl_grammar.specs.declared.names.TypeName.{TypeName}
use Rattle.cl_grammar.specs.declared.terminal.Terminal.{Terminal}
use Rattle.cl_grammar.specs.declared.terminal.Terminal.TheVariants as t
use Rattle.cl_grammar.specs.Statements.{IsExternal}
use Rattle.cl_grammar.specs.StatementTrees.{ExternalTree}
use Rattle.cl_grammar.specs.DeclarationSymbols.{External, any_external, is_else}
use Rattle.cl_grammar.specs.Symbols.{Sym, Mark, D, Are}
use Rattle.cl_grammar.specs.Items.{Stops, Fits}
use Rattle.cl_grammar.specs.Lexemes.{resolve, resolved, is_name, typed_as, vector_of}
use Rattle.cl_grammar.specs.Units as unit
use Rattle.cl_grammar.specs.Units.{IsUnit, UnitTree}
use Rattle.cl_parse.specs.UnitReading.{UnitRead}

-- ---- lists

-- two splits of a list are the same if what is left behind is as long
pub split_same : {A : Type 0} (u v r s : List A) → u ++ v ≡ r ++ s → length v ≡ length s → (u ≡ r) × (v ≡ s)
split_same [] v [] s e h = (refl, e)
split_same [] v (x ∷ r) s e h = absurd (let long : length v ≡ suc (length (r ++ s)) = ap length e in omega (arith, long, h, length-append r s))
split_same (x ∷ u) v [] s e h = absurd (let long : suc (length (u ++ v)) ≡ length s = ap length e in omega (arith, long, h, length-append u v))
split_same (x ∷ u) v (y ∷ r) s e h =
    let heads : x ≡ y = cc in
    let tails : u ++ v ≡ r ++ s = cc in
    let both : (u ≡ r) × (v ≡ s) = split_same u v r s tails h in
    (ap (λ z. z ∷ u) heads ∙ ap (λ z. y ∷ z) both.0, both.1)

resolved_join : (names : List TypeName) (u v : List Lexeme) → resolved names (u ++ v) ≡ resolved names u ++ resolved names v
resolved_join names u v = map-append (resolve names) u v

-- ---- tokens as the symbols that stand for them alone

abbrev pub marks_of : List Lexeme → List Sym
marks_of [] = []
marks_of (l ∷ ls) = Mark l.terminal ∷ marks_of ls

marks_are : (ls : List Lexeme) → Are (marks_of ls) ls
marks_are [] = refl
marks_are (l ∷ ls) = (l ∷ [], ls, record { token = l; stands = refl; alone = refl }, marks_are ls, refl)

marks_length : (ls u : List Lexeme) → Are (marks_of ls) u → length u ≡ length ls
marks_length [] u a = ap length a
marks_length (l ∷ ls) u a = ap length (a.4 ∙ ap (λ z. z ++ a.1) a.2.alone) ∙ ap suc (marks_length ls a.1 a.3)

marks_first : (m : Lexeme) (ls : List Lexeme) (l : Lexeme) (w : List Lexeme) → Are (marks_of (m ∷ ls)) (l ∷ w) → l.terminal ≡ m.terminal
marks_first m ls l w a = let same : l ≡ a.2.token = let e : l ∷ w ≡ a.2.token ∷ a.1 = a.4 ∙ ap (λ z. z ++ a.1) a.2.alone in cc in ap (λ z. z.terminal) same ∙ a.2.stands

-- ---- what may stand behind an external

-- tokens that are none, or begin with no `else`
pub record Behind (ls : List Lexeme) : Type 0 where
  pub fits : (l : Lexeme) (w : List Lexeme) → ls ≡ l ∷ w → is_else l.terminal ≡ false

pub record Starts (u : List Lexeme) : Type 0 where
  pub first : Lexeme
  pub rest : List Lexeme
  pub is : u ≡ first ∷ rest
  pub other : is_else first.terminal ≡ false

-- an external begins with some token, and not with `else`
abbrev pub AllStart : Type 0
AllStart = (declared : List TypeName) (u : List Lexeme) → IsExternal declared u → Starts u

nothing_behind : Behind []
nothing_behind = record { fits = λ l w e. absurd (cc e) }

fit_marks : (ls : List Lexeme) → Behind ls → Stops (D External) (marks_of ls)
fit_marks [] b = record { stops = λ l w a. absurd (let e : l ∷ w ≡ [] = a in cc) }
fit_marks (m ∷ ls) b = record { stops = λ l w a. ap is_else (marks_first m ls l w a) ∙ b.fits m ls refl }

-- `else` is `else` behind any typedef
else_name : (k : Terminal) → is_name k ≡ true → is_else k ≡ false
else_name t.Name h = refl
else_name _ h = absurd (let e : false ≡ true = h in cc)

else_typed : (l : Lexeme) (r : Option Bool) → is_name l.terminal ≡ true → is_else (typed_as l r).terminal ≡ is_else l.terminal
else_typed l None h = refl
else_typed l (Some v) h = sym (else_name l.terminal h)

else_by : (names : List TypeName) (l : Lexeme) (b : Bool) → is_name l.terminal ≡ b → is_else (if b then typed_as l (vector_of names l.text) else l).terminal ≡ is_else l.terminal
else_by names l true h = else_typed l (vector_of names l.text) h
else_by names l false h = refl

else_resolved : (names : List TypeName) (l : Lexeme) → is_else (resolve names l).terminal ≡ is_else l.terminal
else_resolved names l = else_by names l (is_name l.terminal) refl

behind_resolved : (names : List TypeName) (ls : List Lexeme) → Behind ls → Behind (resolved names ls)
behind_resolved names [] b = record { fits = λ l w e. absurd (cc e) }
behind_resolved names (m ∷ ls) b = record { fits = λ l w e. let is : resolve names m ≡ l = cc in ap (λ z. is_else z.terminal) (sym is) ∙ else_resolved names m ∙ b.fits m ls refl }

-- what was resolved starts as it did before
pub starts_before : (names : List TypeName) (u : List Lexeme) → Starts (resolved names u) → Starts u
starts_before names [] s = absurd (let e : [] ≡ s.first ∷ s.rest = s.is in cc)
starts_before names (m ∷ u) s = let is : resolve names m ≡ s.first = (let e : resolve names m ∷ resolved names u ≡ s.first ∷ s.rest = s.is in cc) in record { first = m; rest = u; is = refl; other = sym (else_resolved names m) ∙ ap (λ z. is_else z.terminal) is ∙ s.other }

starts_more : (u v : List Lexeme) → Starts u → Starts (u ++ v)
starts_more u v s = record { first = s.first; rest = s.rest ++ v; is = ap (λ z. z ++ v) s.is; other = s.other }

unit_starts : AllStart → (names : List TypeName) (u : List Lexeme) → IsUnit names u → Starts u
unit_starts all names _ (unit.last _ declared u x) = starts_before names u (all declared (resolved names u) x)
unit_starts all names _ (unit.more _ declared u v x y) = starts_more u v (starts_before names u (all declared (resolved names u) x))

starts_behind : (u : List Lexeme) → Starts u → Behind u
starts_behind u s = record { fits = λ l w e. let is : s.first ≡ l = (let p : s.first ∷ s.rest ≡ l ∷ w = sym s.is ∙ e in cc) in ap (λ z. is_else z.terminal) (sym is) ∙ s.other }

behind_more : (u v : List Lexeme) → Starts u → Behind (u ++ v)
behind_more u v s = starts_behind (u ++ v) (starts_more u v s)

-- ---- an external that was read, before what is left of the tokens

pub record ExternalRead (names declared : List TypeName) (read tail : List Lexeme) : Type 0 where
  pub is : IsExternal declared (resolved names read)
  pub same : (d : List TypeName) → IsExternal d (resolved names read) → d ≡ declared
  pub only : (others : List Sym) → Fits (D External) others → (l : Lexeme) (v w : List Lexeme) → resolved names tail ≡ l ∷ v → Are (D External ∷ others) (resolved names read ++ l ∷ w) → Are others (l ∷ w)

-- an external, and the tokens behind it
row_of : (names d : List TypeName) (u v : List Lexeme) → IsExternal d (resolved names u) → Are (D External ∷ marks_of (resolved names v)) (resolved names (u ++ v))
row_of names d u v x = (resolved names u, resolved names v, any_external d (resolved names u) x, marks_are (resolved names v), resolved_join names u v)

behind_by : AllStart → (names declared : List TypeName) (read tail : List Lexeme) → ExternalRead names declared read tail → (l : Lexeme) (v w c : List Lexeme) → tail ≡ l ∷ v → c ≡ read ++ l ∷ w → IsUnit names c → IsUnit (names ++ declared) (l ∷ w)
behind_by all names declared read tail r l v w _ at e (unit.last _ d u x) =
    let row : Are (D External ∷ []) (resolved names read ++ resolve names l ∷ resolved names w) = (resolved names u, [], any_external d (resolved names u) x, refl, sym (resolved_join names read (l ∷ w)) ∙ ap (resolved names) (sym e) ∙ sym (append-nil (resolved names u))) in
    let none : resolve names l ∷ resolved names w ≡ [] = r.only [] (fit_marks [] nothing_behind) (resolve names l) (resolved names v) (resolved names w) (ap (resolved names) at) row in
    absurd (cc none)
behind_by all names declared read tail r l v w _ at e (unit.more _ d u z x y) =
    let row : Are (D External ∷ marks_of (resolved names z)) (resolved names read ++ resolve names l ∷ resolved names w) = subst (Are (D External ∷ marks_of (resolved names z))) (ap (resolved names) e ∙ resolved_join names read (l ∷ w)) (row_of names d u z x) in
    let left : Are (marks_of (resolved names z)) (resolve names l ∷ resolved names w) = r.only (marks_of (resolved names z)) (fit_marks (resolved names z) (behind_resolved names z (starts_behind z (unit_starts all (names ++ d) z y)))) (resolve names l) (resolved names v) (resolved names w) (ap (resolved names) at) row in
    let long : length z ≡ length (l ∷ w) = sym (length-map z (resolve names)) ∙ sym (marks_length (resolved names z) (resolve names l ∷ resolved names w) left) ∙ length-map (l ∷ w) (resolve names) in
    let both : (u ≡ read) × (z ≡ l ∷ w) = split_same u z read (l ∷ w) e long in
    let declares : d ≡ declared = r.same d (subst (λ z. IsExternal d (resolved names z)) both.0 x) in
    subst (λ z. IsUnit (names ++ z) (l ∷ w)) declares (subst (IsUnit (names ++ d)) both.1 y)

-- ---- a part of a unit that was read, before what is left of the tokens

pub unit_begins : (tail : List Lexeme) → UnitRead [] [] [] tail
unit_begins tail = record { only = λ l v w e u. u; sentence = λ u h. h; tree = λ u es h. h }

unit_goes_on : AllStart → (names declared : List TypeName) (trees : List Tree) (x : Tree) (before read tail : List Lexeme) → UnitRead names trees before (read ++ tail) → ExternalRead names declared read tail → ExternalTree (resolved names read) x → Starts read → UnitRead (names ++ declared) (trees ++ x ∷ []) (before ++ read) tail
unit_goes_on all names declared trees x before read tail so r is s = record {
  only = λ l v w at h.
      let longer : IsUnit [] (before ++ s.first ∷ (s.rest ++ l ∷ w)) = subst (IsUnit []) (append_assoc before read (l ∷ w) ∙ ap (λ z. before ++ (z ++ l ∷ w)) s.is) h in
      let c : IsUnit names (s.first ∷ (s.rest ++ l ∷ w)) = so.only s.first (s.rest ++ tail) (s.rest ++ l ∷ w) (ap (λ z. z ++ tail) s.is) longer in
      behind_by all names declared read tail r l v w (s.first ∷ (s.rest ++ l ∷ w)) at (sym (ap (λ z. z ++ l ∷ w) s.is)) c;
  sentence = λ u h. subst (IsUnit []) (sym (append_assoc before read u)) (so.sentence (read ++ u) (unit.more names declared read u r.is h));
  tree = λ u es h.
      subst (λ z. UnitTree [] z ((trees ++ x ∷ []) ++ es)) (sym (append_assoc before read u)) (subst (UnitTree [] (before ++ (read ++ u))) (sym (append_assoc trees (x ∷ []) es)) (so.tree (read ++ u) (x ∷ es) (unit.more names declared read u x es r.is is h)));
}

-- another external was read
pub unit_next : AllStart → (names declared : List TypeName) (trees : List Tree) (x : Tree) (before read tail : List Lexeme) → UnitRead names trees before (read ++ tail) → ExternalRead names declared read tail → ExternalTree (resolved names read) x → UnitRead (names ++ declared) (trees ++ x ∷ []) (before ++ read) tail
unit_next all names declared trees x before read tail so r is = unit_goes_on all names declared trees x before read tail so r is (starts_before names read (all declared (resolved names read) r.is))

pub unit_ends : (names declared : List TypeName) (trees : List Tree) (x : Tree) (before read tail : List Lexeme) → UnitRead names trees before (read ++ tail) → ExternalRead names declared read tail → ExternalTree (resolved names read) x → UnitTree [] (before ++ read) (trees ++ x ∷ [])
unit_ends names declared trees x before read tail so r is = so.tree read (x ∷ []) (unit.last names declared read x r.is is)

pub tree_unit : (names : List TypeName) (u : List Lexeme) (es : List Tree) → UnitTree names u es → IsUnit names u
tree_unit names _ _ (unit.last _ declared u e x is) = unit.last names declared u x
tree_unit names _ _ (unit.more _ declared u v e es x is h) = unit.more names declared u v x (tree_unit (names ++ declared) v es h)

-- ---- an external that is refused

pub record ExternalOut (names : List TypeName) (read tail : List Lexeme) : Type 0 where
  pub no_more : (others : List Sym) → Fits (D External) others → (l : Lexeme) (v w : List Lexeme) → resolved names tail ≡ l ∷ v → Are (D External ∷ others) (resolved names read ++ l ∷ w) → ⊥

-- no unit goes on with the token there
out_by : AllStart → (names : List TypeName) (read tail : List Lexeme) → ExternalOut names read tail → (l : Lexeme) (v w c x : List Lexeme) → tail ≡ l ∷ v → Behind x → c ++ x ≡ read ++ l ∷ w → IsUnit names c → ⊥
out_by all names read tail o l v w _ x at b e (unit.last _ d u h) =
    o.no_more (marks_of (resolved names x)) (fit_marks (resolved names x) (behind_resolved names x b)) (resolve names l) (resolved names v) (resolved names w) (ap (resolved names) at)
    (subst (Are (D External ∷ marks_of (resolved names x))) (ap (resolved names) e ∙ resolved_join names read (l ∷ w)) (row_of names d u x h))
out_by all names read tail o l v w _ x at b e (unit.more _ d u z h y) =
    o.no_more (marks_of (resolved names (z ++ x))) (fit_marks (resolved names (z ++ x)) (behind_resolved names (z ++ x) (behind_more z x (unit_starts all (names ++ d) z y)))) (resolve names l) (resolved names v) (resolved names w) (ap (resolved names) at)
    (subst (Are (D External ∷ marks_of (resolved names (z ++ x)))) (ap (resolved names) (sym (append_assoc u z x) ∙ e) ∙ resolved_join names read (l ∷ w)) (row_of names d u (z ++ x) h))

-- no unit that begins so goes on with the token there
pub unit_out : AllStart → (names : List TypeName) (trees : List Tree) (before read tail : List Lexeme) → UnitRead names trees before (read ++ tail) → ExternalOut names read tail → (l : Lexeme) (v w : List Lexeme) → tail ≡ l ∷ v → IsUnit [] (before ++ (read ++ l ∷ w)) → ⊥
unit_out all names trees before [] tail so o l v w at h = out_by all names [] tail o l v w (l ∷ w) [] at nothing_behind (append-nil (l ∷ w)) (so.only l v w at h)
unit_out all names trees before (b ∷ bs) tail so o l v w at h = out_by all names (b ∷ bs) tail o l v w (b ∷ (bs ++ l ∷ w)) [] at nothing_behind (append-nil (b ∷ (bs ++ l ∷ w))) (so.only b (bs ++ tail) (bs ++ l ∷ w) refl h)

-- no unit ends before the last token
pub unit_out_last : AllStart → (names : List TypeName) (trees : List Tree) (before read : List Lexeme) (e : Lexeme) → UnitRead names trees before (read ++ e ∷ []) → ExternalOut names read (e ∷ []) → is_else e.terminal ≡ false → (read ≡ [] → before ≡ []) → IsUnit [] (before ++ read) → ⊥
unit_out_last all names trees before [] e so o other fresh h =
    let s = unit_starts all [] [] (subst (λ z. IsUnit [] (z ++ [])) (fresh refl) h) in
    absurd (let f : [] ≡ s.first ∷ s.rest = s.is in cc)
unit_out_last all names trees before (b ∷ bs) e so o other fresh h =
    out_by all names (b ∷ bs) (e ∷ []) o e [] [] (b ∷ bs) (e ∷ []) refl (record { fits = λ l w f. let is : e ≡ l = cc in ap (λ z. is_else z.terminal) (sym is) ∙ other }) refl (so.only b (bs ++ e ∷ []) bs refl h)
