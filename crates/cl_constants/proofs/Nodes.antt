-- What the nodes of a tree come to.
use Rattle.std.proofs.Common.{◌≡◌, ℕ, zero, suc, ◌+◌, ◌<◌, ◌≤◌, List, [], ◌∷◌, ◌++◌, length, map, get_or, drop, refl, sym, ap, ◌∙◌, arith, add-one, drop-cons, append_assoc}
use Rattle.std.proofs.lemmas.List.{drop_all, append-nil}
use Rattle.clv_num.specs.declared.Bits.{Bits}
use Rattle.clv_place.specs.declared.place.Place.{Place}
use Rattle.cl_types.specs.declared.types.ClType.{ClType}
use Rattle.cl_types.specs.declared.types.TypeId.{TypeId}
use Rattle.cl_tree.specs.declared.constant.Constancy.{Constancy}
use Rattle.cl_tree.specs.declared.constant.Constancy.TheVariants.{Varies, Divides, Is}
use Rattle.cl_tree.specs.declared.constant.Operands.{Operands}
use Rattle.cl_tree.specs.declared.constant.Operands.TheVariants.{Vary, Divide, Are}
use Rattle.cl_tree.specs.declared.expression.TExpr.{TExpr}
use Rattle.cl_tree.specs.declared.expression.TNode.{TNode}
use Rattle.cl_tree.specs.declared.expression.TNode.TheOpen.{TNode-F}
use Rattle.cl_tree.specs.declared.expression.TNode.TheViews.{out-TExpr, out-TNode}
use Rattle.cl_tree.specs.declared.expression.TNode.TheFolds.{fold-TNode, fold_out-TExpr, fold_out-TNode}
use Rattle.cl_tree.specs.Constants.{GivenTypes, GivenNode, Known, node_step, expr_step, known_of, constancy_of, operands, and_known, and_first, first_divides}
use Rattle.cl_constants.specs.Operands.{and_next}

abbrev node_of : TNode → GivenNode
node_of = fold-TNode GivenNode GivenTypes node_step expr_step

known_at : (e : TExpr) → known_of e ≡ (λ cs. record { ty = (out-TExpr e).ty; is = node_of (out-TExpr e).node cs (out-TExpr e).ty (out-TExpr e).place })
known_at = fold_out-TExpr GivenNode GivenTypes node_step expr_step

pub type_at : (cs : List ClType) (e : TExpr) → (known_of e cs).ty ≡ (out-TExpr e).ty
type_at cs e = ap (λ f. (f cs).ty) (known_at e)

-- ---- operands from the left

abbrev pub joins : Operands → Operands → Operands
joins Vary rest = Vary
joins (Divide p) rest = first_divides p rest
joins (Are ts nss) Vary = Vary
joins (Are ts nss) (Divide p) = Divide p
joins (Are ts nss) (Are us mss) = Are (ts ++ us) (nss ++ mss)

joins_next : (o : Operands) (t : TypeId) (c : Constancy) (r : Operands) → joins (and_next o t c) r ≡ joins o (and_known t c r)
joins_next Vary t c r = refl
joins_next (Divide p) t Varies r = refl
joins_next (Divide p) t (Divides q) Vary = refl
joins_next (Divide p) t (Divides q) (Divide s) = refl
joins_next (Divide p) t (Divides q) (Are us mss) = refl
joins_next (Divide p) t (Is ns) Vary = refl
joins_next (Divide p) t (Is ns) (Divide s) = refl
joins_next (Divide p) t (Is ns) (Are us mss) = refl
joins_next (Are ts nss) t Varies r = refl
joins_next (Are ts nss) t (Divides q) Vary = refl
joins_next (Are ts nss) t (Divides q) (Divide s) = refl
joins_next (Are ts nss) t (Divides q) (Are us mss) = refl
joins_next (Are ts nss) t (Is ns) Vary = refl
joins_next (Are ts nss) t (Is ns) (Divide s) = refl
joins_next (Are ts nss) t (Is ns) (Are us mss) = λ i. Are (append_assoc ts (t ∷ []) us i) (append_assoc nss (ns ∷ []) mss i)

joins_none : (o : Operands) → joins o (Are [] []) ≡ o
joins_none Vary = refl
joins_none (Divide p) = refl
joins_none (Are ts nss) = λ i. Are (append-nil ts i) (append-nil nss i)

none_joins : (r : Operands) → joins (Are [] []) r ≡ r
none_joins Vary = refl
none_joins (Divide p) = refl
none_joins (Are ts nss) = refl

pub record OperandsGo (cs : List ClType) (es : List TExpr) (at : ℕ) (o : Operands) : Type 0 where
  pub rest : joins o (operands cs (map known_of (drop at es))) ≡ operands cs (map known_of es)

pub operands_begin : (cs : List ClType) (es : List TExpr) → OperandsGo cs es 0 (Are [] [])
operands_begin cs es = record { rest = none_joins (operands cs (map known_of es)) }

first_of : {A : Type 0} (xs : List A) (at : ℕ) (x : A) → at < length xs → x ≡ get_or xs at x → drop at xs ≡ x ∷ drop (at + 1) xs
first_of xs at x h e = drop-cons xs at x h ∙ ap (λ z. z ∷ drop (suc at) xs) (sym e) ∙ ap (λ n. x ∷ drop n xs) (sym (add-one at))

pub operands_more : (cs : List ClType) (es : List TExpr) (at : ℕ) (e : TExpr) (o p : Operands) (c : Constancy) → OperandsGo cs es at o → at < length es → e ≡ get_or es at e → c ≡ constancy_of cs e → p ≡ and_next o (out-TExpr e).ty c → OperandsGo cs es (at + 1) p
operands_more cs es at e o p c go h is known made =
    let rest = operands cs (map known_of (drop (at + 1) es)) in
    record {
      rest = ap (λ z. joins z rest) made ∙ joins_next o (out-TExpr e).ty c rest
          ∙ ap (λ z. joins o (and_known (out-TExpr e).ty z rest)) known
          ∙ sym (ap (λ z. joins o (and_known z (constancy_of cs e) rest)) (type_at cs e))
          ∙ sym (ap (λ z. joins o (operands cs (map known_of z))) (first_of es at e h is)) ∙ go.rest;
    }

pub operands_end : (cs : List ClType) (es : List TExpr) (at : ℕ) (o : Operands) → OperandsGo cs es at o → length es ≤ at → o ≡ operands cs (map known_of es)
operands_end cs es at o go h = sym (joins_none o) ∙ sym (ap (λ z. joins o (operands cs (map known_of z))) (drop_all at es h)) ∙ go.rest

pub ruleset operands_so_far = (operands_begin, operands_more, operands_end)

pub ruleset values = (type_at)
