-- The steps of the reading of words before a function.
use Rattle.std.proofs.Common.{◌≡◌, ℕ, ◌+◌, ◌-◌, ◌≤◌, ◌<◌, List, [], ◌∷◌, ◌++◌, length, drop, Bool, true, false, refl, sym, ap, ◌∙◌, subst, append_assoc, arith}
use Rattle.std.specs.Prelude.{◌&&◌, MatchBool}
use Rattle.std.proofs.lemmas.List.{append-nil}
use Rattle.cl_ast.specs.declared.declaration.FWord.{FWord}
use Rattle.cl_ast.specs.declared.declaration.FWord.TheVariants as fword
use Rattle.cl_grammar.specs.declared.lexeme.Lexeme.{Lexeme}
use Rattle.cl_grammar.specs.declared.terminal.Terminal.{Terminal}
use Rattle.cl_grammar.specs.declared.terminal.Terminal.TheVariants as t
use Rattle.cl_grammar.specs.declared.stop.ExprStop.{ExprStop}
use Rattle.cl_grammar.specs.declared.stop.ExprStop.TheVariants.{NoMemory}
use Rattle.cl_grammar.specs.Statements as st
use Rattle.cl_grammar.specs.Statements.{AreWords, MayBeStatic}
use Rattle.cl_grammar.specs.StatementTrees as tree
use Rattle.cl_grammar.specs.StatementTrees.{WordTree, WordTrees}
use Rattle.cl_grammar.specs.Symbols.{D}
use Rattle.cl_grammar.specs.DeclarationSymbols as d
use Rattle.cl_grammar.specs.DeclarationSymbols.{IsOtherWord}
use Rattle.cl_grammar.specs.Items.{Item, between, EndsIn, IsAt, OtherAt, GoesOn, RefusedAt}
use Rattle.cl_grammar.proofs.TerminalKinds.{kind, has}
use Rattle.cl_grammar.proofs.Steps.{and_first, and_second}
use Rattle.cl_grammar.proofs.Places.{between_same, between_one, between_join, then_mark, by_kinds, by_other_kinds, done}
use Rattle.cl_grammar.proofs.StatementPlaces.{stops_next}
use Rattle.cl_grammar.proofs.DeclarationRules.{other_is_word, words_more, and_true, and_false}
use Rattle.cl_grammar.proofs.DeclarationPredicted.{decl_picks, keeps_decl}
use Rattle.cl_parse.specs.Attributes.{is_word, is_static, BeginsWord, NoWordAt, OtherWordAt, WordAt, WordRefusedAt}
use Rattle.cl_parse.specs.Readings.{WordsAt}
use Rattle.cl_parse.proofs.Places.{decl_starts, decl_expands, then_decl}
use Rattle.cl_parse.proofs.Parameters.{same_token}

-- ---- a word

word_kind : (m : Terminal) → is_word m ≡ has (5 ∷ 6 ∷ 7 ∷ 8 ∷ []) (kind m)
word_kind (t.TypeName true) = refl
word_kind (t.TypeName false) = refl
word_kind _ = refl

pub begins_by : (ts : List Lexeme) (at : ℕ) (k : Terminal) (b : Bool) → IsAt ts at k → b ≡ is_word k → MatchBool b (BeginsWord ts at) (NoWordAt ts at)
begins_by ts at k true s h = record { terminal = k; stands = s; is = sym h }
begins_by ts at k false s h = record { terminal = k; stands = s; none = sym h }

behind_other : (word : Bool) (lone variables : Bool) (ts : List Lexeme) (at next : ℕ) → word ≡ false → GoesOn (D (d.Words lone variables)) (D (d.Words false false) ∷ []) ts at next → GoesOn (D (d.Words lone variables)) (D (d.Words false (lone && word)) ∷ []) ts at next
behind_other word lone variables ts at next h g = subst (λ z. GoesOn (D (d.Words lone variables)) (D (d.Words false z) ∷ []) ts at next) (sym (ap (λ z. lone && z) h ∙ and_false lone)) g

other_start : (lone variables : Bool) (ts : List Lexeme) (at : ℕ) (k : Terminal) → IsAt ts at k → has (5 ∷ 6 ∷ 8 ∷ []) (kind k) ≡ true → GoesOn (D (d.Words lone variables)) (D d.Word ∷ D (d.Words false false) ∷ []) ts at at
other_start lone variables ts at k s h = decl_starts (d.Words lone variables) 1 ts at k s (by_kinds (5 ∷ 6 ∷ 8 ∷ []) (decl_picks (d.Words lone variables) 1) k refl h)

pub other_word : (ts : List Lexeme) (at next : ℕ) (f : FWord) (k : Terminal) → IsAt ts at k → has (5 ∷ 6 ∷ 8 ∷ []) (kind k) ≡ true → OtherWordAt ts at next f → WordAt ts at next f
other_word ts at next f k s h o =
    let q = let r = o.read in r.read in
    let i = q.item in
    record {
      forth = o.forth;
      reads = λ lone variables. behind_other (is_static f) lone variables ts at next o.other (then_decl (D (d.Words lone variables)) d.Word (D (d.Words false false) ∷ []) [] ts at at next (other_start lone variables ts at k s h) q refl);
      is = other_is_word (between ts at next) (subst IsOtherWord (append-nil (between ts at next)) (i.builds [] refl));
      tree = o.tree;
      few = λ a. absurd (let e : true ≡ false = sym a ∙ o.other in cc);
    }

pub word_refused : (ts : List Lexeme) (at : ℕ) (k : Terminal) (stop : ExprStop) → IsAt ts at k → has (5 ∷ 6 ∷ 8 ∷ []) (kind k) ≡ true → RefusedAt (D d.Word) ts at stop → WordRefusedAt ts at stop
word_refused ts at k stop s h f = record { refused = λ lone variables. stops_next (D (d.Words lone variables)) (D d.Word) (D (d.Words false false) ∷ []) ts at at stop (keeps_decl (D (d.Words lone variables)) d.Word (D (d.Words false false) ∷ []) refl) (other_start lone variables ts at k s h) f refl }

pub word_no_memory : (ts : List Lexeme) (at : ℕ) → WordRefusedAt ts at NoMemory
word_no_memory ts at = record { refused = λ lone variables. record { refused = tt } }

static_read : (lone variables : Bool) (ts : List Lexeme) (at : ℕ) → EndsIn ts → IsAt ts at t.Static → GoesOn (D (d.Words lone variables)) (D (d.Words false lone) ∷ []) ts at (at + 1)
static_read lone variables ts at ends s = then_mark (D (d.Words lone variables)) t.Static (D (d.Words false lone) ∷ []) ts at at ends (decl_starts (d.Words lone variables) 0 ts at t.Static s refl) s refl

pub static_at : (ts : List Lexeme) (at : ℕ) → EndsIn ts → IsAt ts at t.Static → WordAt ts at (at + 1) fword.Static
static_at ts at ends s =
    let one = sym (between_one ts at s.token (let q = s.stands in q.here)) in
    record {
      forth = omega arith;
      reads = λ lone variables. subst (λ z. GoesOn (D (d.Words lone variables)) (D (d.Words false z) ∷ []) ts at (at + 1)) (sym (and_true lone)) (static_read lone variables ts at ends s);
      is = subst st.IsWord one (st.static s.token s.is);
      tree = subst (λ z. WordTree z fword.Static) one (tree.static s.token s.is);
      few = λ a. subst MayBeStatic one (st.static s.token s.is);
    }

pub kernel_at : (ts : List Lexeme) (at : ℕ) → EndsIn ts → IsAt ts at t.Kernel → WordAt ts at (at + 1) fword.Kernel
kernel_at ts at ends s =
    other_word ts at (at + 1) fword.Kernel t.Kernel s refl (record {
      forth = omega arith;
      read = done (D d.Word) ts at (at + 1) (then_mark (D d.Word) t.Kernel [] ts at at ends (decl_starts d.Word 0 ts at t.Kernel s refl) s refl);
      tree = subst (λ z. WordTree z fword.Kernel) (sym (between_one ts at s.token (let q = s.stands in q.here))) (tree.kernel s.token s.is);
      other = refl;
    })

inline_at : (ts : List Lexeme) (at : ℕ) → EndsIn ts → IsAt ts at t.Inline → WordAt ts at (at + 1) fword.Inline
inline_at ts at ends s =
    other_word ts at (at + 1) fword.Inline t.Inline s refl (record {
      forth = omega arith;
      read = done (D d.Word) ts at (at + 1) (then_mark (D d.Word) t.Inline [] ts at at ends (decl_starts d.Word 1 ts at t.Inline s refl) s refl);
      tree = subst (λ z. WordTree z fword.Inline) (sym (between_one ts at s.token (let q = s.stands in q.here))) (tree.inline s.token s.is);
      other = refl;
    })

-- what is a word and none of the others is `inline`
last_word : (m : Terminal) → is_word m ≡ true → (m ≡ t.Attribute → ⊥) → (m ≡ t.Static → ⊥) → (m ≡ t.Kernel → ⊥) → m ≡ t.Inline
last_word t.Attribute h x y z = absurd (x refl)
last_word t.Static h x y z = absurd (y refl)
last_word t.Kernel h x y z = absurd (z refl)
last_word t.Inline h x y z = refl
last_word (t.TypeName vector) h x y z = absurd (let e : false ≡ true = h in cc)
last_word m h x y z = absurd (let e : false ≡ true = h in cc)

differs_at : (ts : List Lexeme) (at : ℕ) (m k : Terminal) → IsAt ts at m → OtherAt ts at k → m ≡ k → ⊥
differs_at ts at m k s o e = let q = o.stands in o.differs (sym q.is ∙ ap (λ l. l.terminal) (same_token ts at q.token s.token q.stands s.stands) ∙ s.is ∙ e)

pub last_at : (ts : List Lexeme) (at : ℕ) → EndsIn ts → BeginsWord ts at → OtherAt ts at t.Attribute → OtherAt ts at t.Static → OtherAt ts at t.Kernel → WordAt ts at (at + 1) fword.Inline
last_at ts at ends b x y z =
    let s = b.stands in
    let m = b.terminal in
    let e = last_word m b.is (differs_at ts at m t.Attribute s x) (differs_at ts at m t.Static s y) (differs_at ts at m t.Kernel s z) in
    inline_at ts at ends (subst (IsAt ts at) e s)

-- ---- words

-- what is known of the words that were read so far
pub record Words (ts : List Lexeme) (at here : ℕ) (words : List FWord) (lone variables : Bool) : Type 0 where
  pub forth : at ≤ here
  pub within : here < length ts
  pub reads : GoesOn (D (d.Words true true)) (D (d.Words lone variables) ∷ []) ts at here
  pub are : AreWords (between ts at here)
  pub trees : WordTrees (between ts at here) words
  pub alone : lone ≡ true → between ts at here ≡ []
  pub few : variables ≡ true → MayBeStatic (between ts at here)

words_start : (ts : List Lexeme) (at : ℕ) → at < length ts → GoesOn (D (d.Words true true)) (D (d.Words true true) ∷ []) ts at at
words_start ts at h = record {
  forth = omega arith;
  within = h;
  item = subst (λ z. Item (D (d.Words true true)) (D (d.Words true true) ∷ []) z (drop at ts) (drop at ts)) (sym (between_same ts at)) (record {
    split = refl;
    builds = λ u are. subst (d.IsWords true true) (sym (are.4 ∙ ap (λ z. are.0 ++ z) are.3 ∙ append-nil are.0)) are.2;
    only = λ others fits l v w first are. are;
  });
}

pub no_words : (ts : List Lexeme) (at : ℕ) → at < length ts → Words ts at at [] true true
no_words ts at h = record {
  forth = omega arith;
  within = h;
  reads = words_start ts at h;
  are = subst AreWords (sym (between_same ts at)) st.none;
  trees = subst (λ z. WordTrees z []) (sym (between_same ts at)) tree.none;
  alone = λ a. between_same ts at;
  few = λ a. subst MayBeStatic (sym (between_same ts at)) st.none;
}

trees_more : (u v : List Lexeme) (fs : List FWord) (f : FWord) → WordTrees u fs → WordTree v f → WordTrees (u ++ v) (fs ++ f ∷ [])
trees_more _ v _ f tree.none b = subst (λ z. WordTrees z (f ∷ [])) (append-nil v) (tree.more v [] f [] b tree.none)
trees_more _ v _ f (tree.more u w g gs a c) b = subst (λ z. WordTrees z (g ∷ (gs ++ f ∷ []))) (sym (append_assoc u w v)) (tree.more u (w ++ v) g (gs ++ f ∷ []) a (trees_more w v gs f c b))

pub more_words : (ts : List Lexeme) (at here next : ℕ) (fs : List FWord) (f : FWord) (lone variables now : Bool) → Words ts at here fs lone variables → WordAt ts here next f → now ≡ (lone && is_static f) → Words ts at next (fs ++ f ∷ []) false now
more_words ts at here next fs f lone variables now w o e =
    let h = o.forth in
    let split = between_join ts at here next w.forth (omega arith) in
    let g = then_decl (D (d.Words true true)) (d.Words lone variables) [] (D (d.Words false (lone && is_static f)) ∷ []) ts at here next w.reads (o.reads lone variables) refl in
    subst (Words ts at next (fs ++ f ∷ []) false) (sym e) (record {
      forth = let i = w.forth in omega arith;
      within = g.within;
      reads = g;
      are = subst AreWords split (words_more (between ts at here) (between ts here next) w.are o.is);
      trees = subst (λ z. WordTrees z (fs ++ f ∷ [])) split (trees_more (between ts at here) (between ts here next) fs f w.trees o.tree);
      alone = λ a. absurd (let i : false ≡ true = a in cc);
      few = λ a. subst MayBeStatic (sym (ap (λ z. z ++ between ts here next) (w.alone (and_first lone (is_static f) a))) ∙ split) (o.few (and_second lone (is_static f) a));
    })

pub words_done : (ts : List Lexeme) (at here : ℕ) (fs : List FWord) (lone variables : Bool) → Words ts at here fs lone variables → NoWordAt ts here → WordsAt ts at here fs lone variables
words_done ts at here fs lone variables w n = record {
  reads = decl_expands (D (d.Words true true)) (d.Words lone variables) [] 2 ts at here n.terminal w.reads n.stands (by_other_kinds (5 ∷ 6 ∷ 7 ∷ 8 ∷ []) (decl_picks (d.Words lone variables) 2) n.terminal refl (sym (word_kind n.terminal) ∙ n.none)) refl;
  are = w.are;
  trees = w.trees;
  alone = w.alone;
  few = w.few;
}

pub words_stop : (ts : List Lexeme) (at here : ℕ) (fs : List FWord) (lone variables : Bool) (stop : ExprStop) → Words ts at here fs lone variables → WordRefusedAt ts here stop → RefusedAt (D (d.Words true true)) ts at stop
words_stop ts at here fs lone variables stop w f = stops_next (D (d.Words true true)) (D (d.Words lone variables)) [] ts at here stop (keeps_decl (D (d.Words true true)) (d.Words lone variables) [] refl) w.reads (f.refused lone variables) refl
