-- What is read is what is held, and a text is in or out.
use Rattle.std.proofs.Common.{◌≡◌, ℕ, IsTrue, List, length, Some, refl, sym, ap, ◌∙◌, subst, arith, ◌≤◌, Result, Ok, Err}
use Rattle.clv_place.specs.declared.stop.Offence.{Offence}
use Rattle.clv_io.specs.Files.{FilesState, IsTooLarge}
use Rattle.clv_engine.specs.declared.form.Kernel.{Kernel}
use Rattle.cl_lexer.specs.declared.token.Tokens.{Tokens}
use Rattle.cl_lexer.specs.Tokens.{Lexes, too_large, refused, read as reads, OneVerdict as LexedOnce}
use Rattle.cl_pre.specs.Expansion.{Expansion, OneVerdict as ExpandedOnce}
use Rattle.cl_ast.specs.declared.declaration.Ast.{Ast}
use Rattle.cl_tree.specs.declared.tree.Tree.{Tree}
use Rattle.cl_grammar.specs.Units.{Judges}
use Rattle.cl_parse.specs.Verdicts.{OneOffence as JudgedOnce}
use Rattle.cl_plain.specs.Laws.{SaysTheSame, OneTree}
use Rattle.cl_typing.specs.Units.{IsTyped, IsOffence}
use Rattle.cl_verdicts.specs.Verdicts.{NeverBoth as TypedOnly, OneOffence as RefusedOnce}
use Rattle.clv_engine.specs.FirstForm.{kinds_of, IsRead, IsIn, IsNotBuilt, lexing, expanding, parsing, typing, forming, InOrOut, OneOffence}
use Rattle.clv_engine.specs.Command.{IsText}

pub some_is : (a b : List ℕ) → Some a ≡ Some b → a ≡ b
some_is a b e = cc

-- ---- the verdicts of the phases

module _ (lexed_once : LexedOnce) (expanded_once : ExpandedOnce) (judged_once : JudgedOnce) (one_tree : OneTree) (typed_only : TypedOnly) (refused_once : RefusedOnce) where
  same_tokens : (text : List ℕ) (a b : Tokens) → Lexes text (Ok a) → Lexes text (Ok b) → a ≡ b
  same_tokens text a b l m = let e = lexed_once text (Ok a) (Ok b) l m in cc

  -- a text that has tokens has no offence of the lexer
  lexer_offends : (text : List ℕ) (a : Tokens) (o : Offence) → Lexes text (Ok a) → Lexes text (Err o) → ⊥
  lexer_offends text a o l m = let e = lexed_once text (Ok a) (Err o) l m in cc

  -- and one whose tokens expand has none of the expansion
  expansion_offends : (text : List ℕ) (a b c : Tokens) (o : Offence) → IsRead text a c → Lexes text (Ok b) → Expansion b (Err o) → ⊥
  expansion_offends text a b c o r m f = let g = expanded_once b (Ok c) (Err o) (subst (λ z. Expansion z (Ok c)) (same_tokens text a b r.lexes m) r.expands) f in cc

  same_expanded : (text : List ℕ) (a b c d : Tokens) → IsRead text a c → IsRead text b d → c ≡ d
  same_expanded text a b c d r q = let g = expanded_once b (Ok c) (Ok d) (subst (λ z. Expansion z (Ok c)) (same_tokens text a b r.lexes q.lexes) r.expands) q.expands in cc

  -- a text that is a unit has no offence of the grammar
  grammar_offends : (text : List ℕ) (a b c d : Tokens) (t : Ast) (o : Offence) → IsRead text a c → IsRead text b d → Judges c (Ok t) → Judges d (Err o) → ⊥
  grammar_offends text a b c d t o r q j k = let g = judged_once d o (Ok t) k (subst (λ z. Judges z (Ok t)) (same_expanded text a b c d r q) j) in cc

  -- the trees of a text say the same
  same_trees : (text : List ℕ) (a b c d : Tokens) (t u : Ast) → IsRead text a c → IsRead text b d → Judges c (Ok t) → Judges d (Ok u) → SaysTheSame t u
  same_trees text a b c d t u r q j k = one_tree d t u (subst (λ z. Judges z (Ok t)) (same_expanded text a b c d r q) j) k

  -- a unit that keeps the typing rules has no offence of these
  typing_offends : (text : List ℕ) (a b c d : Tokens) (t u : Ast) (typed : Tree) (o : Offence) → IsRead text a c → IsRead text b d → Judges c (Ok t) → Judges d (Ok u) → IsTyped t typed → IsOffence u o → ⊥
  typing_offends text a b c d t u typed o r q j k h x = typed_only t u typed o (same_trees text a b c d t u r q j k) h x

  -- no text is in and out
  pub in_out : InOrOut
  in_out text k o i (lexing l) = lexer_offends text i.tokens o i.is_read.lexes l
  in_out text k o i (expanding a l e) = expansion_offends text i.tokens a i.expanded o i.is_read l e
  in_out text k o i (parsing a c r j) = grammar_offends text i.tokens a i.expanded c i.tree o i.is_read r i.parses j
  in_out text k o i (typing a c t r j x) = typing_offends text i.tokens a i.expanded c i.tree t i.typed o i.is_read r i.parses j i.types x
  in_out text k o i (forming n) =
      let e = same_expanded text i.tokens n.tokens i.expanded n.expanded i.is_read n.is_read in
      n.no_kernel k i.kernel (ap (λ z. kinds_of z.list) (sym e) ∙ i.spelled)

  same_refusal : (text : List ℕ) (o p : Offence) → IsNotBuilt text o → IsNotBuilt text p → o ≡ p
  same_refusal text o p n m =
      let c = n.code ∙ sym m.code in
      let l = n.line ∙ sym m.line in
      let k = n.col ∙ sym m.col in
      (λ i. record { code = c i; place = record { line = l i; col = k i } })

  -- a text has one offence
  pub one_offence : OneOffence
  one_offence text o p (lexing l) (lexing m) = let e = lexed_once text (Err o) (Err p) l m in cc
  one_offence text o p (lexing l) (expanding b m f) = absurd (lexer_offends text b o m l)
  one_offence text o p (lexing l) (parsing b d q k) = absurd (lexer_offends text b o q.lexes l)
  one_offence text o p (lexing l) (typing b d u q k y) = absurd (lexer_offends text b o q.lexes l)
  one_offence text o p (lexing l) (forming m) = absurd (lexer_offends text m.tokens o m.is_read.lexes l)
  one_offence text o p (expanding a l e) (lexing m) = absurd (lexer_offends text a p l m)
  one_offence text o p (expanding a l e) (expanding b m f) = let g = expanded_once b (Err o) (Err p) (subst (λ z. Expansion z (Err o)) (same_tokens text a b l m) e) f in cc
  one_offence text o p (expanding a l e) (parsing b d q k) = absurd (expansion_offends text b a d o q l e)
  one_offence text o p (expanding a l e) (typing b d u q k y) = absurd (expansion_offends text b a d o q l e)
  one_offence text o p (expanding a l e) (forming m) = absurd (expansion_offends text m.tokens a m.expanded o m.is_read l e)
  one_offence text o p (parsing a c r j) (lexing m) = absurd (lexer_offends text a p r.lexes m)
  one_offence text o p (parsing a c r j) (expanding b m f) = absurd (expansion_offends text a b c p r m f)
  one_offence text o p (parsing a c r j) (parsing b d q k) = let g = judged_once d o (Err p) (subst (λ z. Judges z (Err o)) (same_expanded text a b c d r q) j) k in cc
  one_offence text o p (parsing a c r j) (typing b d u q k y) = absurd (grammar_offends text b a d c u o q r k j)
  one_offence text o p (parsing a c r j) (forming m) = absurd (grammar_offends text m.tokens a m.expanded c m.tree o m.is_read r m.parses j)
  one_offence text o p (typing a c t r j x) (lexing m) = absurd (lexer_offends text a p r.lexes m)
  one_offence text o p (typing a c t r j x) (expanding b m f) = absurd (expansion_offends text a b c p r m f)
  one_offence text o p (typing a c t r j x) (parsing b d q k) = absurd (grammar_offends text a b c d t p r q j k)
  one_offence text o p (typing a c t r j x) (typing b d u q k y) = sym (refused_once t u o p (same_trees text a b c d t u r q j k) x y)
  one_offence text o p (typing a c t r j x) (forming m) = absurd (typing_offends text m.tokens a m.expanded c m.tree t m.typed o m.is_read r m.parses j m.types x)
  one_offence text o p (forming n) (lexing m) = absurd (lexer_offends text n.tokens p n.is_read.lexes m)
  one_offence text o p (forming n) (expanding b m f) = absurd (expansion_offends text n.tokens b n.expanded p n.is_read m f)
  one_offence text o p (forming n) (parsing b d q k) = absurd (grammar_offends text n.tokens b n.expanded d n.tree p n.is_read q n.parses k)
  one_offence text o p (forming n) (typing b d u q k y) = absurd (typing_offends text n.tokens b n.expanded d n.tree u n.typed p n.is_read q n.parses k n.types y)
  one_offence text o p (forming n) (forming m) = same_refusal text o p n m

-- a text that is lexed has at most 1 MiB
size_of : (text : List ℕ) (tokens : Tokens) (w : Result Tokens Offence) → w ≡ Ok tokens → Lexes text w → length text ≤ 1048576
size_of text tokens w e (too_large h) = absurd (cc)
size_of text tokens w e (refused o h r) = absurd (cc)
size_of text tokens w e (reads list end h r s) = h

-- the text that was read is the text that is held
pub text_is : (files : FilesState) (s text text2 : List ℕ) → IsTrue files.tells → files.held s ≡ Some text → IsText files s text2 → text2 ≡ text
text_is files s text text2 told held read = some_is text2 text (sym (read told) ∙ held)

pub over_out : (files : FilesState) (s text : List ℕ) (seen : ℕ) (k : Kernel) → IsTrue files.tells → files.held s ≡ Some text → IsTooLarge files s 1048576 seen → IsIn text k → ⊥
over_out files s text seen k told held large i =
    let there = large.there told in
    let same = some_is there.0 text (sym there.1 ∙ held) in
    let size = size_of text i.tokens (Ok i.tokens) refl i.is_read.lexes in
    let more = large.over in
    let below = there.2 in
    let lengths = ap length same in
    omega (arith, size, more, below, lengths)
