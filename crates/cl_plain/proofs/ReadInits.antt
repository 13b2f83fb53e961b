-- A reader of initialisers and declared names.
use Rattle.std.proofs.Common.{◌≡◌, ℕ, suc, zero, ◌+◌, Bool, true, false, if◌then◌else◌, List, [], ◌∷◌, ◌++◌, map, Option, Some, None, refl, sym, ap, ◌∙◌, append_assoc, arith}
use Rattle.cl_ast.specs.declared.declaration.Init.{Init}
use Rattle.cl_ast.specs.declared.declaration.InitDeclor.{InitDeclor}
use Rattle.cl_grammar.specs.declared.lexeme.Lexeme.{Lexeme}
use Rattle.cl_grammar.specs.declared.terminal.Terminal.{Terminal}
use Rattle.cl_grammar.specs.declared.terminal.Terminal.TheVariants as t
use Rattle.cl_grammar.specs.Expressions.{IsA}
use Rattle.cl_grammar.specs.StatementTrees.{InitTree, value as value_tree, braces as braces_tree, InitTrees, last_init, last_with_comma, more_inits, InitDeclorTree, bare, initialised, InitDeclorTrees}
use Rattle.cl_grammar.specs.StatementTrees.InitDeclorTrees.{last, more}
use Rattle.cl_plain.specs.Plain.{Plain, over, leaf, value, braces, declared, given, missing, plain_init, plain_declared}
use Rattle.cl_plain.proofs.Reading.{Reads, first_is, is_end, is_declor_end}
use Rattle.cl_plain.proofs.ReadSteps.{and_then, skip, then_is, if_true, if_false, enough, reads_from, reads_with}
use Rattle.cl_plain.proofs.PartBegins.{begins_init, assign_first, inits_first}
use Rattle.cl_plain.proofs.ReadExpressions.{read_assign, assign_reads, read_declor, declor_reads}
use Rattle.cl_plain.proofs.PlainStatements.{init_value, init_braces}
use Rattle.cl_plain.proofs.ReadMarks.{is_open_brace, is_close_brace, is_comma, begins_expr, first_excludes, first_implies}

abbrev pub is_equals : Terminal → Bool
is_equals t.Equals = true
is_equals _ = false

-- behind a declared name and its initialiser
abbrev pub is_declared_end : Terminal → Bool
is_declared_end t.Comma = true
is_declared_end t.Semicolon = true
is_declared_end _ = false

abbrev pub in_braces : (List Lexeme → Option (List Plain × List Lexeme)) → List Lexeme → Option (Plain × List Lexeme)
in_braces inits [] = None
in_braces inits (l ∷ ls) = and_then (inits ls) (λ ps rest. Some (over (braces l.place) ps, skip rest))

abbrev mutual
  pub read_init : ℕ → List Lexeme → Option (Plain × List Lexeme)
  read_init zero ls = None
  read_init (suc n) ls = if first_is is_open_brace ls then in_braces (read_inits n) ls else and_then (read_assign n ls) (λ p rest. Some (over value (p ∷ []), rest))

  pub read_inits : ℕ → List Lexeme → Option (List Plain × List Lexeme)
  read_inits zero ls = None
  read_inits (suc n) ls =
      and_then (read_init n ls) (λ p rest.
      if first_is is_comma rest then (if first_is is_close_brace (skip rest) then Some (p ∷ [], skip rest) else and_then (read_inits n (skip rest)) (λ ps more. Some (p ∷ ps, more))) else Some (p ∷ [], rest))

expr_not_open : (l : Terminal) → begins_expr l ≡ true → is_open_brace l ≡ false
expr_not_open t.OpenBrace e = absurd (cc)
expr_not_open _ e = refl

init_not_close : (l : Terminal) → begins_init l ≡ true → is_close_brace l ≡ false
init_not_close t.CloseBrace e = absurd (cc)
init_not_close _ e = refl

mutual
  pub init_reads : (u : List Lexeme) (i : Init) → InitTree u i → (r : List Lexeme) → first_is is_end r ≡ true → Reads read_init u r (plain_init i)
  init_reads _ _ (value_tree u e h) r k =
      let a = assign_reads u e h r k in
      reads_from read_init u r _ a.steps (λ m le. if_false _ (first_excludes begins_expr is_open_brace expr_not_open (u ++ r) (assign_first u e h r)) ∙ (then_is _ (enough a m le) ∙ ap (λ z. Some (z, r)) (sym (init_value e))))
  init_reads _ _ (braces_tree o c u items ho h hc) r k =
      let a = inits_read u items.items h c r hc in
      reads_from read_init (o ∷ (u ++ c ∷ [])) r _ a.steps (λ m le. ap (λ z. read_init (suc m) (o ∷ z)) (append_assoc u (c ∷ []) r) ∙ (if_true _ (ap is_open_brace ho) ∙ (then_is _ (enough a m le) ∙ ap (λ z. Some (z, r)) (sym (init_braces o.place items)))))

  -- up to the `}`
  pub inits_read : (u : List Lexeme) (is : List Init) → InitTrees u is → (c : Lexeme) (r : List Lexeme) → IsA t.CloseBrace c → Reads read_inits u (c ∷ r) (map plain_init is)
  inits_read _ _ (last_init u i h) c r hc =
      let a = init_reads u i h (c ∷ r) (ap is_end hc) in
      reads_from read_inits u (c ∷ r) _ a.steps (λ m le. then_is _ (enough a m le) ∙ if_false _ (ap is_comma hc))
  inits_read _ _ (last_with_comma k u i h hk) c r hc =
      let a = init_reads u i h (k ∷ c ∷ r) (ap is_end hk) in
      reads_from read_inits (u ++ k ∷ []) (c ∷ r) _ a.steps (λ m le. ap (read_inits (suc m)) (append_assoc u (k ∷ []) (c ∷ r)) ∙ (then_is _ (enough a m le) ∙ (if_true _ (ap is_comma hk) ∙ if_true _ (ap is_close_brace hc))))
  inits_read _ _ (more_inits k u v i is h hk hs) c r hc =
      let a = init_reads u i h (k ∷ (v ++ c ∷ r)) (ap is_end hk) in
      let b = inits_read v is hs c r hc in
      let not_close = first_excludes begins_init is_close_brace init_not_close (v ++ c ∷ r) (inits_first v is hs (c ∷ r)) in
      reads_from read_inits (u ++ k ∷ v) (c ∷ r) _ (a.steps + b.steps) (λ m le.
      ap (read_inits (suc m)) (append_assoc u (k ∷ v) (c ∷ r))
      ∙ (then_is _ (enough a m (omega arith)) ∙ (if_true _ (ap is_comma hk) ∙ (if_false _ not_close ∙ then_is _ (enough b m (omega arith))))))

-- ---- declared names

abbrev pub read_declared : ℕ → List Lexeme → Option (Plain × List Lexeme)
read_declared n ls =
    and_then (read_declor n ls) (λ d rest.
    if first_is is_equals rest then and_then (read_init n (skip rest)) (λ i more. Some (over declared (d ∷ over given (i ∷ []) ∷ []), more)) else Some (over declared (d ∷ leaf missing ∷ []), rest))

abbrev pub read_declareds : ℕ → List Lexeme → Option (List Plain × List Lexeme)
read_declareds zero ls = None
read_declareds (suc n) ls =
    and_then (read_declared n ls) (λ d rest. if first_is is_comma rest then and_then (read_declareds n (skip rest)) (λ ds more. Some (d ∷ ds, more)) else Some (d ∷ [], rest))

ends_declor : (l : Terminal) → is_declared_end l ≡ true → is_declor_end l ≡ true
ends_declor t.Comma e = refl
ends_declor t.Semicolon e = refl
ends_declor _ e = absurd (cc)

ends_init : (l : Terminal) → is_declared_end l ≡ true → is_end l ≡ true
ends_init t.Comma e = refl
ends_init t.Semicolon e = refl
ends_init _ e = absurd (cc)

end_not_equals : (l : Terminal) → is_declared_end l ≡ true → is_equals l ≡ false
end_not_equals t.Comma e = refl
end_not_equals t.Semicolon e = refl
end_not_equals _ e = absurd (cc)

pub declared_reads : (u : List Lexeme) (d : InitDeclor) → InitDeclorTree u d → (r : List Lexeme) → first_is is_declared_end r ≡ true → Reads read_declared u r (plain_declared d)
declared_reads _ _ (bare u d h) r k =
    let a = declor_reads u d h r (first_implies is_declared_end is_declor_end ends_declor r k) in
    reads_with read_declared u r _ a.steps (λ m le. then_is _ (enough a m le) ∙ if_false _ (first_excludes is_declared_end is_equals end_not_equals r k))
declared_reads _ _ (initialised e u v d i h he hi) r k =
    let a = declor_reads u d h (e ∷ (v ++ r)) (ap is_declor_end he) in
    let b = init_reads v i hi r (first_implies is_declared_end is_end ends_init r k) in
    reads_with read_declared (u ++ e ∷ v) r _ (a.steps + b.steps) (λ m le.
    ap (read_declared m) (append_assoc u (e ∷ v) r) ∙ (then_is _ (enough a m (omega arith)) ∙ (if_true _ (ap is_equals he) ∙ then_is _ (enough b m (omega arith)))))

-- up to the `;`
pub declareds_read : (u : List Lexeme) (ds : List InitDeclor) → InitDeclorTrees u ds → (s : Lexeme) (r : List Lexeme) → IsA t.Semicolon s → Reads read_declareds u (s ∷ r) (map plain_declared ds)
declareds_read _ _ (last u d h) s r hs =
    let a = declared_reads u d h (s ∷ r) (ap is_declared_end hs) in
    reads_from read_declareds u (s ∷ r) _ a.steps (λ m le. then_is _ (enough a m le) ∙ if_false _ (ap is_comma hs))
declareds_read _ _ (more c u v d ds h hc k) s r hs =
    let a = declared_reads u d h (c ∷ (v ++ s ∷ r)) (ap is_declared_end hc) in
    let b = declareds_read v ds k s r hs in
    reads_from read_declareds (u ++ c ∷ v) (s ∷ r) _ (a.steps + b.steps) (λ m le.
    ap (read_declareds (suc m)) (append_assoc u (c ∷ v) (s ∷ r)) ∙ (then_is _ (enough a m (omega arith)) ∙ (if_true _ (ap is_comma hc) ∙ then_is _ (enough b m (omega arith)))))
