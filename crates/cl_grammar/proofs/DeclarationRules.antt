-- The rules of declarations: the parts that each symbol consists of, in the order in which the code tries them.
use Rattle.std.proofs.Common.{◌≡◌, Bool, true, false, List, [], ◌∷◌, ◌++◌, refl, sym, ap, ◌∙◌, subst, append_assoc, inl, inr}
use Rattle.std.specs.Prelude.{◌&&◌}
use Rattle.std.proofs.lemmas.List.{append-nil}
use Rattle.cl_grammar.specs.declared.lexeme.Lexeme.{Lexeme}
use Rattle.cl_grammar.specs.declared.names.TypeName.{TypeName}
use Rattle.cl_grammar.specs.declared.terminal.Terminal.TheVariants as t
use Rattle.cl_grammar.specs.Expressions as g
use Rattle.cl_grammar.specs.Expressions.{IsA, IsSpec, IsDeclor, MayBeStar, AreLengths, AreAssigns}
use Rattle.cl_grammar.specs.Parts.{IsAnySpec, any_spec}
use Rattle.cl_grammar.specs.Symbols as e
use Rattle.cl_grammar.specs.Symbols.{Sym, Mark, E, S, D, Is, Are, IsToken}
use Rattle.cl_grammar.specs.Statements as s
use Rattle.cl_grammar.specs.Statements.{IsExternal, IsBlock, IsHint, IsWord, AreWords, MayBeStatic, AreInitDeclors, IsParam, AreParams, IsParamList, is_none}
use Rattle.cl_grammar.specs.StatementSymbols as x
use Rattle.cl_grammar.specs.DeclarationSymbols as d
use Rattle.cl_grammar.specs.DeclarationSymbols.{DeclSym, is_decl, IsAnyExternal, IsBehindParams, IsNextParam, IsParamName, IsBehindParam, IsParams, IsFunction, IsVectorHint, IsSizeName, IsHintWord, IsBehindSize, IsInAttribute, IsOtherWord, IsBehindType, IsWords}
use Rattle.cl_grammar.proofs.Rules.{Fills, AnyOf}
use Rattle.cl_grammar.proofs.StatementRules.{mark_are, part_are, last_are, end_are, from_mark, from_part, from_last, from_end}

abbrev pub closes : List Sym
closes = Mark t.CloseParen ∷ Mark t.CloseParen ∷ []

abbrev pub decl_rules : DeclSym → List (List Sym)
decl_rules d.External = (Mark t.Typedef ∷ E e.AnySpec ∷ E e.Declor ∷ Mark t.Semicolon ∷ []) ∷ (D (d.Words true true) ∷ []) ∷ []
decl_rules (d.Words lone variables) = (Mark t.Static ∷ D (d.Words false lone) ∷ []) ∷ (D d.Word ∷ D (d.Words false false) ∷ []) ∷ (E e.AnySpec ∷ D (d.BehindType lone variables) ∷ []) ∷ []
decl_rules (d.BehindType true true) = (Mark t.Semicolon ∷ []) ∷ (S x.InitDeclors ∷ Mark t.Semicolon ∷ []) ∷ (D d.Function ∷ []) ∷ []
decl_rules (d.BehindType false true) = (S x.InitDeclors ∷ Mark t.Semicolon ∷ []) ∷ (D d.Function ∷ []) ∷ []
decl_rules (d.BehindType lone false) = (D d.Function ∷ []) ∷ []
decl_rules d.Function = (Mark t.Name ∷ Mark t.OpenParen ∷ D d.Params ∷ []) ∷ []
decl_rules d.Params = (Mark t.CloseParen ∷ D (d.BehindParams true) ∷ []) ∷ (Mark t.Void ∷ Mark t.CloseParen ∷ D (d.BehindParams true) ∷ []) ∷ (D (d.NextParam true) ∷ []) ∷ []
decl_rules (d.NextParam named) = (E e.AnySpec ∷ E e.MayStar ∷ D (d.ParamName named) ∷ []) ∷ []
decl_rules (d.ParamName named) = (Mark t.Name ∷ D (d.BehindParam named) ∷ []) ∷ (D (d.BehindParam false) ∷ []) ∷ []
decl_rules (d.BehindParam named) = (Mark t.Comma ∷ D (d.NextParam named) ∷ []) ∷ (Mark t.CloseParen ∷ D (d.BehindParams named) ∷ []) ∷ []
decl_rules (d.BehindParams true) = (Mark t.Semicolon ∷ []) ∷ (S x.Block ∷ []) ∷ []
decl_rules (d.BehindParams false) = (Mark t.Semicolon ∷ []) ∷ []
decl_rules d.Word = (Mark t.Kernel ∷ []) ∷ (Mark t.Inline ∷ []) ∷ (Mark t.Attribute ∷ Mark t.OpenParen ∷ Mark t.OpenParen ∷ D d.InAttribute ∷ []) ∷ []
decl_rules d.InAttribute = (D d.VectorHint ∷ Mark t.OpenParen ∷ D d.Hint ∷ Mark t.CloseParen ∷ closes) ∷ (D d.SizeName ∷ D d.BehindSize ∷ []) ∷ []
decl_rules d.BehindSize = (Mark t.OpenParen ∷ E e.Assigns ∷ Mark t.CloseParen ∷ closes) ∷ closes ∷ []
decl_rules d.Hint = (D d.HintWord ∷ []) ∷ (E e.Integer ∷ []) ∷ []
decl_rules d.HintWord = (D d.HintWord ∷ []) ∷ []
decl_rules d.VectorHint = (D d.VectorHint ∷ []) ∷ []
decl_rules d.SizeName = (D d.SizeName ∷ []) ∷ []

-- ---- parameters

pub and_true : (b : Bool) → (b && true) ≡ b
and_true true = refl
and_true false = refl

pub and_false : (b : Bool) → (b && false) ≡ false
and_false true = refl
and_false false = refl

and_assoc : (a b c : Bool) → ((a && b) && c) ≡ (a && (b && c))
and_assoc true b c = refl
and_assoc false b c = refl

param_made : (before named : Bool) (u v : List Lexeme) → IsParam named u → IsBehindParam (before && named) v → IsNextParam before (u ++ v)
param_made before _ _ w (s.unnamed vector u v a b) h = subst (IsNextParam before) (sym (append_assoc u v w)) (d.next_param before vector u v w a b (d.has_none before w (subst (λ z. IsBehindParam z w) (and_false before) h)))
param_made before _ _ w (s.named vector n u v a b c) h =
    subst (IsNextParam before) (ap (λ z. u ++ z) (sym (append_assoc v (n ∷ []) w)) ∙ sym (append_assoc u (v ++ n ∷ []) w))
    (d.next_param before vector u v (n ∷ w) a b (d.has_name before n w c (subst (λ z. IsBehindParam z w) (and_true before) h)))

pub params_made : (before named : Bool) (c : Lexeme) (u v : List Lexeme) → AreParams named u → IsA t.CloseParen c → IsBehindParams (before && named) v → IsNextParam before (u ++ c ∷ v)
params_made before named c u v (s.last _ _ a) h b = param_made before named u (c ∷ v) a (d.close (before && named) c v h b)
params_made before _ c _ w (s.more named others k u v a h b) i j =
    subst (IsNextParam before) (sym (append_assoc u (k ∷ v) (c ∷ w)))
    (param_made before named u (k ∷ (v ++ c ∷ w)) a (d.another (before && named) k (v ++ c ∷ w) h (params_made (before && named) others c v w b i (subst (λ z. IsBehindParams z w) (sym (and_assoc before named others)) j))))

list_made : (named : Bool) (c : Lexeme) (u v : List Lexeme) → IsParamList named u → IsA t.CloseParen c → IsBehindParams named v → IsParams (u ++ c ∷ v)
list_made _ c _ v s.none h b = d.no_param c v h b
list_made _ c _ v (s.void k a) h b = d.only_void k c v a h b
list_made named c _ v (s.params _ u a) h b = d.some_params (u ++ c ∷ v) (params_made true named c u v a h b)

-- the parameters that tokens hold, and what stands behind them
pub record ParamsRead (before : Bool) (u : List Lexeme) : Type 0 where
  pub named : Bool
  pub list : List Lexeme
  pub close : Lexeme
  pub behind : List Lexeme
  pub are : AreParams named list
  pub closes_it : IsA t.CloseParen close
  pub ends : IsBehindParams (before && named) behind
  pub split : u ≡ list ++ close ∷ behind

one_read : (before m flag : Bool) (p : List Lexeme) (c : Lexeme) (u : List Lexeme) → flag ≡ (before && m) → IsParam m p → IsA t.CloseParen c → IsBehindParams flag u → ParamsRead before (p ++ c ∷ u)
one_read before m flag p c u e a h b = record { named = m; list = p; close = c; behind = u; are = s.last m p a; closes_it = h; ends = subst (λ z. IsBehindParams z u) e b; split = refl }

more_read : (before m flag : Bool) (p : List Lexeme) (c : Lexeme) (u : List Lexeme) → flag ≡ (before && m) → IsParam m p → IsA t.Comma c → ParamsRead flag u → ParamsRead before (p ++ c ∷ u)
more_read before m flag p c u e a h r = record {
  named = m && r.named;
  list = p ++ c ∷ r.list;
  close = r.close;
  behind = r.behind;
  are = s.more m r.named c p r.list a h r.are;
  closes_it = r.closes_it;
  ends = subst (λ z. IsBehindParams z r.behind) (ap (λ z. z && r.named) e ∙ and_assoc before m r.named) r.ends;
  split = ap (λ z. p ++ c ∷ z) r.split ∙ sym (append_assoc p (c ∷ r.list) (r.close ∷ r.behind));
}

mutual
  pub next_read : (before : Bool) (u : List Lexeme) → IsNextParam before u → ParamsRead before u
  next_read before _ (d.next_param _ vector u v w a b c) = name_read before vector u v w a b c

  name_read : (before vector : Bool) (u v w : List Lexeme) → IsSpec vector u → MayBeStar v → IsParamName before w → ParamsRead before (u ++ (v ++ w))
  name_read before vector u v _ a b (d.has_name _ n w h c) =
      subst (ParamsRead before) (append_assoc u (v ++ n ∷ []) w ∙ ap (λ z. u ++ z) (append_assoc v (n ∷ []) w))
      (behind_read before true before (u ++ (v ++ n ∷ [])) w (sym (and_true before)) (s.named vector n u v a b h) c)
  name_read before vector u v w a b (d.has_none _ _ c) = subst (ParamsRead before) (append_assoc u v w) (behind_read before false false (u ++ v) w (sym (and_false before)) (s.unnamed vector u v a b) c)

  behind_read : (before m flag : Bool) (p v : List Lexeme) → flag ≡ (before && m) → IsParam m p → IsBehindParam flag v → ParamsRead before (p ++ v)
  behind_read before m flag p _ e a (d.another _ c u h b) = more_read before m flag p c u e a h (next_read flag u b)
  behind_read before m flag p _ e a (d.close _ c u h b) = one_read before m flag p c u e a h b

-- the same of a list that may be empty
pub record ListRead (u : List Lexeme) : Type 0 where
  pub named : Bool
  pub list : List Lexeme
  pub close : Lexeme
  pub behind : List Lexeme
  pub is : IsParamList named list
  pub closes_it : IsA t.CloseParen close
  pub ends : IsBehindParams named behind
  pub split : u ≡ list ++ close ∷ behind

list_read : (u : List Lexeme) → IsParams u → ListRead u
list_read _ (d.no_param c u h b) = record { named = true; list = []; close = c; behind = u; is = s.none; closes_it = h; ends = b; split = refl }
list_read _ (d.only_void v c u a h b) = record { named = true; list = v ∷ []; close = c; behind = u; is = s.void v a; closes_it = h; ends = b; split = refl }
list_read u (d.some_params _ a) = let r = next_read true u a in record { named = r.named; list = r.list; close = r.close; behind = r.behind; is = s.params r.named r.list r.are; closes_it = r.closes_it; ends = r.ends; split = r.split }

-- ---- words

pub other_is_word : (u : List Lexeme) → IsOtherWord u → IsWord u
other_is_word _ (d.kernel w a) = s.kernel w a
other_is_word _ (d.inline w a) = s.inline w a
other_is_word _ (d.attribute a o p _ b c f (d.of_vector n q i j k u (d.vector_hint _ m) r v w y z)) = s.vector_hint a o p n q i j k u b c f m r v w y z
other_is_word _ (d.attribute a o p _ b c f (d.of_size n _ (d.size_name _ l m) (d.no_argument i j k h))) = s.size_alone a o p n i j b c f l m k h
other_is_word _ (d.attribute a o p _ b c f (d.of_size n _ (d.size_name _ l m) (d.arguments q h i j u k r v w y))) = s.size a o p n q h i j u b c f l m k r v w y

word_then : (lone variables : Bool) (u v : List Lexeme) → IsWord u → ((a b : Bool) → IsWords a b v) → IsWords lone variables (u ++ v)
word_then lone variables _ v (s.kernel w a) f = d.word lone variables (w ∷ []) v (d.kernel w a) (f false false)
word_then lone variables _ v (s.inline w a) f = d.word lone variables (w ∷ []) v (d.inline w a) (f false false)
word_then lone variables _ v (s.static w a) f = d.static lone variables w v a (f false lone)
word_then lone variables _ z (s.vector_hint a o p n q i j k u b c e m r v w y h) f = d.word lone variables (a ∷ o ∷ p ∷ n ∷ q ∷ (u ++ i ∷ j ∷ k ∷ [])) z (d.attribute a o p (n ∷ q ∷ (u ++ i ∷ j ∷ k ∷ [])) b c e (d.of_vector n q i j k u (d.vector_hint n m) r v w y h)) (f false false)
word_then lone variables _ z (s.size_alone a o p n i j b c e l m k h) f = d.word lone variables (a ∷ o ∷ p ∷ n ∷ i ∷ j ∷ []) z (d.attribute a o p (n ∷ i ∷ j ∷ []) b c e (d.of_size n (i ∷ j ∷ []) (d.size_name n l m) (d.no_argument i j k h))) (f false false)
word_then lone variables _ z (s.size a o p n q h i j u b c e l m k r v w y) f = d.word lone variables (a ∷ o ∷ p ∷ n ∷ q ∷ (u ++ h ∷ i ∷ j ∷ [])) z (d.attribute a o p (n ∷ q ∷ (u ++ h ∷ i ∷ j ∷ [])) b c e (d.of_size n (q ∷ (u ++ h ∷ i ∷ j ∷ [])) (d.size_name n l m) (d.arguments q h i j u k r v w y))) (f false false)

words_then : (lone variables : Bool) (u v : List Lexeme) → AreWords u → ((a b : Bool) → IsWords a b v) → IsWords lone variables (u ++ v)
words_then lone variables _ v s.none f = f lone variables
words_then lone variables _ v (s.more u w a b) f = subst (IsWords lone variables) (sym (append_assoc u w v)) (word_then lone variables u (w ++ v) a (λ p q. words_then p q w v b f))

a_function : (vector named : Bool) (n o c : Lexeme) (u v w : List Lexeme) (lone variables : Bool) → IsSpec vector u → IsA t.Name n → IsA t.OpenParen o → IsParamList named v → IsA t.CloseParen c → IsBehindParams named w → IsWords lone variables (u ++ n ∷ o ∷ (v ++ c ∷ w))
a_function vector named n o c u v w lone variables a h i b k e = d.typed lone variables vector u (n ∷ o ∷ (v ++ c ∷ w)) a (d.of_function lone variables _ (d.function n o (v ++ c ∷ w) h i (list_made named c v w b k e)))

static_then : (vector : Bool) (k : Lexeme) (u v w : List Lexeme) → MayBeStatic u → IsSpec vector v → AreInitDeclors w → IsA t.Semicolon k → IsWords true true (u ++ (v ++ (w ++ k ∷ [])))
static_then vector k _ v w s.none a b h = d.typed true true vector v (w ++ k ∷ []) a (d.names true k w b h)
static_then vector k _ v w (s.static l i) a b h = d.static true true l (v ++ (w ++ k ∷ [])) i (d.typed false true vector v (w ++ k ∷ []) a (d.names false k w b h))

external_rows : (declared : List TypeName) (u : List Lexeme) → IsExternal declared u → AnyOf (decl_rules d.External) u
external_rows _ _ (s.typedef vector h n k u v w a b c i j l) =
    inl (mark_are t.Typedef _ h _ a (part_are (E e.AnySpec) _ u _ (any_spec vector u b)
    (subst (Fills (E e.Declor ∷ Mark t.Semicolon ∷ [])) (append_assoc v (n ∷ w) (k ∷ []))
    (part_are (E e.Declor) _ (v ++ n ∷ w) (k ∷ []) (g.declor n v w c i j) (end_are t.Semicolon k l)))))
external_rows _ _ (s.types vector k u a b) = inr (inl (last_are (D (d.Words true true)) (u ++ k ∷ []) (d.typed true true vector u (k ∷ []) a (d.type_alone k b))))
external_rows _ _ (s.constants vector k u v w a b c h) = inr (inl (last_are (D (d.Words true true)) _ (static_then vector k u v w a b c h)))
external_rows _ _ (s.declared vector named n o c k u v w a b h i j l m) = inr (inl (last_are (D (d.Words true true)) _ (words_then true true u _ a (λ p q. a_function vector named n o c v w (k ∷ []) p q b h i j l (d.declared named k m)))))
external_rows _ _ (s.defined vector n o c u v w z a b h i j l m) = inr (inl (last_are (D (d.Words true true)) _ (words_then true true u _ a (λ p q. a_function vector true n o c v w z p q b h i j l (d.defined z m)))))

-- what may have been read before these words
pub data Before : Bool → Bool → List Lexeme → Type 0 where
  nothing : Before true true []
  one_static : (w : Lexeme) → IsA t.Static w → Before false true (w ∷ [])
  others : (u : List Lexeme) → AreWords u → Before false false u

pub words_more : (u v : List Lexeme) → AreWords u → IsWord v → AreWords (u ++ v)
words_more _ v s.none b = subst AreWords (append-nil v) (s.more v [] b s.none)
words_more _ v (s.more u w a c) b = subst AreWords (sym (append_assoc u w v)) (s.more u (w ++ v) a (words_more w v c b))

pub before_words : (lone variables : Bool) (u : List Lexeme) → Before lone variables u → AreWords u
before_words _ _ _ nothing = s.none
before_words _ _ _ (one_static w a) = s.more (w ∷ []) [] (s.static w a) s.none
before_words _ _ _ (others u a) = a

pub before_static : (lone variables : Bool) (w : Lexeme) (u : List Lexeme) → Before lone variables u → IsA t.Static w → Before false lone (u ++ w ∷ [])
before_static _ _ w _ nothing h = one_static w h
before_static _ _ w _ (one_static v a) h = others (v ∷ w ∷ []) (s.more (v ∷ []) (w ∷ []) (s.static v a) (s.more (w ∷ []) [] (s.static w h) s.none))
before_static _ _ w _ (others u a) h = others (u ++ w ∷ []) (words_more u (w ∷ []) a (s.static w h))

pub before_other : (lone variables : Bool) (u v : List Lexeme) → Before lone variables u → IsOtherWord v → Before false false (u ++ v)
before_other lone variables u v b h = others (u ++ v) (words_more u v (before_words lone variables u b) (other_is_word v h))

function_ends : (vector named : Bool) (u v : List Lexeme) (n o : Lexeme) (w : List Lexeme) (c : Lexeme) (z : List Lexeme) → AreWords u → IsSpec vector v → IsA t.Name n → IsA t.OpenParen o → IsParamList named w → IsA t.CloseParen c → IsBehindParams named z → IsExternal [] (u ++ (v ++ n ∷ o ∷ (w ++ c ∷ z)))
function_ends vector named u v n o w c _ a b h i p k (d.declared _ q l) = s.declared vector named n o c q u v w a b h i p k l
function_ends vector _ u v n o w c z a b h i p k (d.defined _ l) = s.defined vector n o c u v w z a b h i p k l

function_with : (vector : Bool) (u v : List Lexeme) (n o : Lexeme) (w : List Lexeme) → AreWords u → IsSpec vector v → IsA t.Name n → IsA t.OpenParen o → ListRead w → IsExternal [] (u ++ (v ++ n ∷ o ∷ w))
function_with vector u v n o w a b h i r = subst (λ z. IsExternal [] (u ++ (v ++ n ∷ o ∷ z))) (sym r.split) (function_ends vector r.named u v n o r.list r.close r.behind a b h i r.is r.closes_it r.ends)

pub function_made : (vector : Bool) (u v w : List Lexeme) → AreWords u → IsSpec vector v → IsFunction w → IsExternal [] (u ++ (v ++ w))
function_made vector u v _ a b (d.function n o w h i p) = function_with vector u v n o w a b h i (list_read w p)

typed_made : (vector lone variables : Bool) (u v w : List Lexeme) → Before lone variables u → IsSpec vector v → IsBehindType lone variables w → IsExternal [] (u ++ (v ++ w))
typed_made vector _ _ _ v _ nothing a (d.type_alone k h) = s.types vector k v a h
typed_made vector _ _ _ v _ nothing a (d.names _ k w b h) = s.constants vector k [] v w s.none a b h
typed_made vector _ _ _ v _ (one_static l i) a (d.names _ k w b h) = s.constants vector k (l ∷ []) v w (s.static l i) a b h
typed_made vector lone variables u v w b a (d.of_function _ _ _ f) = function_made vector u v w (before_words lone variables u b) a f

pub words_external : (lone variables : Bool) (w u : List Lexeme) → Before lone variables w → IsWords lone variables u → IsExternal [] (w ++ u)
words_external lone variables w _ b (d.static _ _ k u h a) = subst (IsExternal []) (append_assoc w (k ∷ []) u) (words_external false lone (w ++ k ∷ []) u (before_static lone variables k w b h) a)
words_external lone variables w _ b (d.word _ _ u v h a) = subst (IsExternal []) (append_assoc w u v) (words_external false false (w ++ u) v (before_other lone variables w u b h) a)
words_external lone variables w _ b (d.typed _ _ vector u v h a) = typed_made vector lone variables w u v b h a

-- ---- rows

pub decl_rows_of : (y : DeclSym) (u : List Lexeme) → is_decl y u → AnyOf (decl_rules y) u
decl_rows_of d.External u (d.any_external declared _ a) = external_rows declared u a
decl_rows_of (d.Words _ _) _ (d.static lone variables k u a b) = inl (mark_are t.Static _ k u a (last_are (D (d.Words false lone)) u b))
decl_rows_of (d.Words _ _) _ (d.word lone variables u v a b) = inr (inl (part_are (D d.Word) _ u v a (last_are (D (d.Words false false)) v b)))
decl_rows_of (d.Words _ _) _ (d.typed lone variables vector u v a b) = inr (inr (inl (part_are (E e.AnySpec) _ u v (any_spec vector u a) (last_are (D (d.BehindType lone variables)) v b))))
decl_rows_of (d.BehindType true true) _ (d.type_alone k a) = inl (end_are t.Semicolon k a)
decl_rows_of (d.BehindType true true) _ (d.names _ k u a b) = inr (inl (part_are (S x.InitDeclors) _ u (k ∷ []) a (end_are t.Semicolon k b)))
decl_rows_of (d.BehindType true true) u (d.of_function _ _ _ a) = inr (inr (inl (last_are (D d.Function) u a)))
decl_rows_of (d.BehindType false true) _ (d.names _ k u a b) = inl (part_are (S x.InitDeclors) _ u (k ∷ []) a (end_are t.Semicolon k b))
decl_rows_of (d.BehindType false true) u (d.of_function _ _ _ a) = inr (inl (last_are (D d.Function) u a))
decl_rows_of (d.BehindType true false) u (d.of_function _ _ _ a) = inl (last_are (D d.Function) u a)
decl_rows_of (d.BehindType false false) u (d.of_function _ _ _ a) = inl (last_are (D d.Function) u a)
decl_rows_of d.Function _ (d.function n o u a b c) = inl (mark_are t.Name _ n _ a (mark_are t.OpenParen _ o u b (last_are (D d.Params) u c)))
decl_rows_of d.Params _ (d.no_param c u a b) = inl (mark_are t.CloseParen _ c u a (last_are (D (d.BehindParams true)) u b))
decl_rows_of d.Params _ (d.only_void v c u a b h) = inr (inl (mark_are t.Void _ v _ a (mark_are t.CloseParen _ c u b (last_are (D (d.BehindParams true)) u h))))
decl_rows_of d.Params u (d.some_params _ a) = inr (inr (inl (last_are (D (d.NextParam true)) u a)))
decl_rows_of (d.NextParam _) _ (d.next_param named vector u v w a b c) = inl (part_are (E e.AnySpec) _ u _ (any_spec vector u a) (part_are (E e.MayStar) _ v w b (last_are (D (d.ParamName named)) w c)))
decl_rows_of (d.ParamName _) _ (d.has_name named n u a b) = inl (mark_are t.Name _ n u a (last_are (D (d.BehindParam named)) u b))
decl_rows_of (d.ParamName _) u (d.has_none named _ a) = inr (inl (last_are (D (d.BehindParam false)) u a))
decl_rows_of (d.BehindParam _) _ (d.another named c u a b) = inl (mark_are t.Comma _ c u a (last_are (D (d.NextParam named)) u b))
decl_rows_of (d.BehindParam _) _ (d.close named c u a b) = inr (inl (mark_are t.CloseParen _ c u a (last_are (D (d.BehindParams named)) u b)))
decl_rows_of (d.BehindParams true) _ (d.declared _ k a) = inl (end_are t.Semicolon k a)
decl_rows_of (d.BehindParams true) u (d.defined _ a) = inr (inl (last_are (S x.Block) u a))
decl_rows_of (d.BehindParams false) _ (d.declared _ k a) = inl (end_are t.Semicolon k a)
decl_rows_of d.Word _ (d.kernel w a) = inl (end_are t.Kernel w a)
decl_rows_of d.Word _ (d.inline w a) = inr (inl (end_are t.Inline w a))
decl_rows_of d.Word _ (d.attribute w o p u a b c h) = inr (inr (inl (mark_are t.Attribute _ w _ a (mark_are t.OpenParen _ o _ b (mark_are t.OpenParen _ p u c (last_are (D d.InAttribute) u h))))))
decl_rows_of d.InAttribute _ (d.of_vector n q i j k u h a b c l m) = inl (part_are (D d.VectorHint) _ (n ∷ []) _ h (mark_are t.OpenParen _ q _ a (part_are (D d.Hint) _ u _ b (mark_are t.CloseParen _ i _ c (mark_are t.CloseParen _ j _ l (end_are t.CloseParen k m))))))
decl_rows_of d.InAttribute _ (d.of_size n u h a) = inr (inl (part_are (D d.SizeName) _ (n ∷ []) u h (last_are (D d.BehindSize) u a)))
decl_rows_of d.BehindSize _ (d.no_argument i j a b) = inr (inl (mark_are t.CloseParen _ i _ a (end_are t.CloseParen j b)))
decl_rows_of d.BehindSize _ (d.arguments q i j k u a b c l m) = inl (mark_are t.OpenParen _ q _ a (part_are (E e.Assigns) _ u _ b (mark_are t.CloseParen _ i _ c (mark_are t.CloseParen _ j _ l (end_are t.CloseParen k m)))))
decl_rows_of d.Hint _ (s.word w a) = inl (last_are (D d.HintWord) (w ∷ []) (d.hint_word w a))
decl_rows_of d.Hint u (s.integer _ a) = inr (inl (last_are (E e.Integer) u a))
decl_rows_of d.HintWord u a = inl (last_are (D d.HintWord) u a)
decl_rows_of d.VectorHint u a = inl (last_are (D d.VectorHint) u a)
decl_rows_of d.SizeName u a = inl (last_are (D d.SizeName) u a)

-- ---- what parts make

typedef_made : (h k : Lexeme) (u v : List Lexeme) → IsA t.Typedef h → IsAnySpec u → IsDeclor v → IsA t.Semicolon k → IsAnyExternal (h ∷ (u ++ (v ++ k ∷ [])))
typedef_made h k _ _ a (any_spec vector u b) (g.declor n v w c i j) l =
    d.any_external _ _ (subst (λ z. IsExternal (record { name = n.text; vector = vector && (is_none v && is_none w) } ∷ []) (h ∷ (u ++ z))) (sym (append_assoc v (n ∷ w) (k ∷ []))) (s.typedef vector h n k u v w a b c i j l))

next_of : (named : Bool) (u v w : List Lexeme) → IsAnySpec u → MayBeStar v → IsParamName named w → IsNextParam named (u ++ (v ++ w))
next_of named _ v w (any_spec vector u a) b c = d.next_param named vector u v w a b c

typed_words : (lone variables : Bool) (u v : List Lexeme) → IsAnySpec u → IsBehindType lone variables v → IsWords lone variables (u ++ v)
typed_words lone variables _ v (any_spec vector u a) b = d.typed lone variables vector u v a b

vector_made : (n q i j k : Lexeme) (u : List Lexeme) → IsVectorHint (n ∷ []) → IsA t.OpenParen q → IsHint u → IsA t.CloseParen i → IsA t.CloseParen j → IsA t.CloseParen k → IsInAttribute (n ∷ q ∷ (u ++ i ∷ j ∷ k ∷ []))
vector_made n q i j k u a b c l m h = d.of_vector n q i j k u a b c l m h

hint_first : (u : List Lexeme) (P : List Lexeme → Type 0) → IsVectorHint u → ((n : Lexeme) → IsVectorHint (n ∷ []) → P (n ∷ [])) → P u
hint_first _ P (d.vector_hint n a) f = f n (d.vector_hint n a)

size_first : (u : List Lexeme) (P : List Lexeme → Type 0) → IsSizeName u → ((n : Lexeme) → IsSizeName (n ∷ []) → P (n ∷ [])) → P u
size_first _ P (d.size_name n a b) f = f n (d.size_name n a b)

word_hint : (u : List Lexeme) → IsHintWord u → IsHint u
word_hint _ (d.hint_word w a) = s.word w a

pub decl_part_of : (y : DeclSym) (u : List Lexeme) → AnyOf (decl_rules y) u → is_decl y u
decl_part_of d.External u (inl r) = from_mark t.Typedef _ u IsAnyExternal (λ h v a q. from_part (E e.AnySpec) _ v (λ z. IsAnyExternal (h ∷ z)) (λ p w b l. from_part (E e.Declor) _ w (λ z. IsAnyExternal (h ∷ (p ++ z))) (λ c i j m. from_end t.Semicolon i (λ z. IsAnyExternal (h ∷ (p ++ (c ++ z)))) (λ k n. typedef_made h k p c a b j n) m) l) q) r
decl_part_of d.External u (inr (inl r)) = from_last (D (d.Words true true)) u IsAnyExternal (λ v a. d.any_external [] v (words_external true true [] v nothing a)) r
decl_part_of d.External u (inr (inr r)) = absurd r
decl_part_of (d.Words lone variables) u (inl r) = from_mark t.Static _ u (IsWords lone variables) (λ k v a q. from_last (D (d.Words false lone)) v (λ z. IsWords lone variables (k ∷ z)) (λ w b. d.static lone variables k w a b) q) r
decl_part_of (d.Words lone variables) u (inr (inl r)) = from_part (D d.Word) _ u (IsWords lone variables) (λ v w a q. from_last (D (d.Words false false)) w (λ z. IsWords lone variables (v ++ z)) (λ y b. d.word lone variables v y a b) q) r
decl_part_of (d.Words lone variables) u (inr (inr (inl r))) = from_part (E e.AnySpec) _ u (IsWords lone variables) (λ v w a q. from_last (D (d.BehindType lone variables)) w (λ z. IsWords lone variables (v ++ z)) (λ y b. typed_words lone variables v y a b) q) r
decl_part_of (d.Words lone variables) u (inr (inr (inr r))) = absurd r
decl_part_of (d.BehindType true true) u (inl r) = from_end t.Semicolon u (IsBehindType true true) (λ k a. d.type_alone k a) r
decl_part_of (d.BehindType true true) u (inr (inl r)) = from_part (S x.InitDeclors) _ u (IsBehindType true true) (λ v w a q. from_end t.Semicolon w (λ z. IsBehindType true true (v ++ z)) (λ k b. d.names true k v a b) q) r
decl_part_of (d.BehindType true true) u (inr (inr (inl r))) = from_last (D d.Function) u (IsBehindType true true) (λ v a. d.of_function true true v a) r
decl_part_of (d.BehindType true true) u (inr (inr (inr r))) = absurd r
decl_part_of (d.BehindType false true) u (inl r) = from_part (S x.InitDeclors) _ u (IsBehindType false true) (λ v w a q. from_end t.Semicolon w (λ z. IsBehindType false true (v ++ z)) (λ k b. d.names false k v a b) q) r
decl_part_of (d.BehindType false true) u (inr (inl r)) = from_last (D d.Function) u (IsBehindType false true) (λ v a. d.of_function false true v a) r
decl_part_of (d.BehindType false true) u (inr (inr r)) = absurd r
decl_part_of (d.BehindType true false) u (inl r) = from_last (D d.Function) u (IsBehindType true false) (λ v a. d.of_function true false v a) r
decl_part_of (d.BehindType true false) u (inr r) = absurd r
decl_part_of (d.BehindType false false) u (inl r) = from_last (D d.Function) u (IsBehindType false false) (λ v a. d.of_function false false v a) r
decl_part_of (d.BehindType false false) u (inr r) = absurd r
decl_part_of d.Function u (inl r) = from_mark t.Name _ u IsFunction (λ n v a q. from_mark t.OpenParen _ v (λ z. IsFunction (n ∷ z)) (λ o w b l. from_last (D d.Params) w (λ z. IsFunction (n ∷ o ∷ z)) (λ y c. d.function n o y a b c) l) q) r
decl_part_of d.Function u (inr r) = absurd r
decl_part_of d.Params u (inl r) = from_mark t.CloseParen _ u IsParams (λ c v a q. from_last (D (d.BehindParams true)) v (λ z. IsParams (c ∷ z)) (λ w b. d.no_param c w a b) q) r
decl_part_of d.Params u (inr (inl r)) = from_mark t.Void _ u IsParams (λ k v a q. from_mark t.CloseParen _ v (λ z. IsParams (k ∷ z)) (λ c w b l. from_last (D (d.BehindParams true)) w (λ z. IsParams (k ∷ c ∷ z)) (λ y h. d.only_void k c y a b h) l) q) r
decl_part_of d.Params u (inr (inr (inl r))) = from_last (D (d.NextParam true)) u IsParams (λ v a. d.some_params v a) r
decl_part_of d.Params u (inr (inr (inr r))) = absurd r
decl_part_of (d.NextParam named) u (inl r) = from_part (E e.AnySpec) _ u (IsNextParam named) (λ v w a q. from_part (E e.MayStar) _ w (λ z. IsNextParam named (v ++ z)) (λ i j b l. from_last (D (d.ParamName named)) j (λ z. IsNextParam named (v ++ (i ++ z))) (λ y c. next_of named v i y a b c) l) q) r
decl_part_of (d.NextParam named) u (inr r) = absurd r
decl_part_of (d.ParamName named) u (inl r) = from_mark t.Name _ u (IsParamName named) (λ n v a q. from_last (D (d.BehindParam named)) v (λ z. IsParamName named (n ∷ z)) (λ w b. d.has_name named n w a b) q) r
decl_part_of (d.ParamName named) u (inr (inl r)) = from_last (D (d.BehindParam false)) u (IsParamName named) (λ v a. d.has_none named v a) r
decl_part_of (d.ParamName named) u (inr (inr r)) = absurd r
decl_part_of (d.BehindParam named) u (inl r) = from_mark t.Comma _ u (IsBehindParam named) (λ c v a q. from_last (D (d.NextParam named)) v (λ z. IsBehindParam named (c ∷ z)) (λ w b. d.another named c w a b) q) r
decl_part_of (d.BehindParam named) u (inr (inl r)) = from_mark t.CloseParen _ u (IsBehindParam named) (λ c v a q. from_last (D (d.BehindParams named)) v (λ z. IsBehindParam named (c ∷ z)) (λ w b. d.close named c w a b) q) r
decl_part_of (d.BehindParam named) u (inr (inr r)) = absurd r
decl_part_of (d.BehindParams true) u (inl r) = from_end t.Semicolon u (IsBehindParams true) (λ k a. d.declared true k a) r
decl_part_of (d.BehindParams true) u (inr (inl r)) = from_last (S x.Block) u (IsBehindParams true) (λ v a. d.defined v a) r
decl_part_of (d.BehindParams true) u (inr (inr r)) = absurd r
decl_part_of (d.BehindParams false) u (inl r) = from_end t.Semicolon u (IsBehindParams false) (λ k a. d.declared false k a) r
decl_part_of (d.BehindParams false) u (inr r) = absurd r
decl_part_of d.Word u (inl r) = from_end t.Kernel u IsOtherWord (λ w a. d.kernel w a) r
decl_part_of d.Word u (inr (inl r)) = from_end t.Inline u IsOtherWord (λ w a. d.inline w a) r
decl_part_of d.Word u (inr (inr (inl r))) = from_mark t.Attribute _ u IsOtherWord (λ w v a q. from_mark t.OpenParen _ v (λ z. IsOtherWord (w ∷ z)) (λ o y b l. from_mark t.OpenParen _ y (λ z. IsOtherWord (w ∷ o ∷ z)) (λ p i c j. from_last (D d.InAttribute) i (λ z. IsOtherWord (w ∷ o ∷ p ∷ z)) (λ k h. d.attribute w o p k a b c h) j) l) q) r
decl_part_of d.Word u (inr (inr (inr r))) = absurd r
decl_part_of d.InAttribute u (inl r) = from_part (D d.VectorHint) _ u IsInAttribute (λ v w a q. hint_first v (λ z. IsInAttribute (z ++ w)) a (λ n f. from_mark t.OpenParen _ w (λ z. IsInAttribute (n ∷ z)) (λ o y b l. from_part (D d.Hint) _ y (λ z. IsInAttribute (n ∷ o ∷ z)) (λ i j c m. from_mark t.CloseParen _ j (λ z. IsInAttribute (n ∷ o ∷ (i ++ z))) (λ h1 k1 a1 q1. from_mark t.CloseParen _ k1 (λ z. IsInAttribute (n ∷ o ∷ (i ++ h1 ∷ z))) (λ h2 k2 a2 q2. from_end t.CloseParen k2 (λ z. IsInAttribute (n ∷ o ∷ (i ++ h1 ∷ h2 ∷ z))) (λ h3 a3. vector_made n o h1 h2 h3 i f b c a1 a2 a3) q2) q1) m) l) q)) r
decl_part_of d.InAttribute u (inr (inl r)) = from_part (D d.SizeName) _ u IsInAttribute (λ v w a q. size_first v (λ z. IsInAttribute (z ++ w)) a (λ n f. from_last (D d.BehindSize) w (λ z. IsInAttribute (n ∷ z)) (λ y b. d.of_size n y f b) q)) r
decl_part_of d.InAttribute u (inr (inr r)) = absurd r
decl_part_of d.BehindSize u (inl r) = from_mark t.OpenParen _ u IsBehindSize (λ o y b l. from_part (E e.Assigns) _ y (λ z. IsBehindSize (o ∷ z)) (λ i j c m. from_mark t.CloseParen _ j (λ z. IsBehindSize (o ∷ (i ++ z))) (λ h1 k1 a1 q1. from_mark t.CloseParen _ k1 (λ z. IsBehindSize (o ∷ (i ++ h1 ∷ z))) (λ h2 k2 a2 q2. from_end t.CloseParen k2 (λ z. IsBehindSize (o ∷ (i ++ h1 ∷ h2 ∷ z))) (λ h3 a3. d.arguments o h1 h2 h3 i b c a1 a2 a3) q2) q1) m) l) r
decl_part_of d.BehindSize u (inr (inl r)) = from_mark t.CloseParen _ u IsBehindSize (λ h1 k1 a1 q1. from_end t.CloseParen k1 (λ z. IsBehindSize (h1 ∷ z)) (λ h2 a2. d.no_argument h1 h2 a1 a2) q1) r
decl_part_of d.BehindSize u (inr (inr r)) = absurd r
decl_part_of d.Hint u (inl r) = from_last (D d.HintWord) u IsHint (λ v a. word_hint v a) r
decl_part_of d.Hint u (inr (inl r)) = from_last (E e.Integer) u IsHint (λ v a. s.integer v a) r
decl_part_of d.Hint u (inr (inr r)) = absurd r
decl_part_of d.HintWord u (inl r) = from_last (D d.HintWord) u IsHintWord (λ v a. a) r
decl_part_of d.HintWord u (inr r) = absurd r
decl_part_of d.VectorHint u (inl r) = from_last (D d.VectorHint) u IsVectorHint (λ v a. a) r
decl_part_of d.VectorHint u (inr r) = absurd r
decl_part_of d.SizeName u (inl r) = from_last (D d.SizeName) u IsSizeName (λ v a. a) r
decl_part_of d.SizeName u (inr r) = absurd r
