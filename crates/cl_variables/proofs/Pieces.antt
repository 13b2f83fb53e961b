-- Bytes of constants, as they are put one behind the other.
use Rattle.std.proofs.Common.{◌≡◌, ℕ, zero, suc, ◌+◌, ◌-◌, ◌/◌, ◌%◌, ◌<◌, ◌≤◌, Bool, true, false, ◌||◌, nat_eq, if◌then◌else◌, List, [], ◌∷◌, ◌++◌, length, replicate, get_or, drop, Option, Some, None, is_some, Result, Ok, Err, IfOk, slice_get, refl, sym, ap, ◌∙◌, subst, arith, add-one, drop-cons, append_assoc, true≢false}
use Rattle.std.proofs.Math.Dec.{eqb-suc-zero}
use Rattle.std.proofs.lemmas.List.{drop_all, append-nil, length-append}
use Rattle.std.specs.Global.{Vec}
use Rattle.clv_place.specs.declared.stop.NoMemory.{NoMemory}
use Rattle.cl_types.specs.declared.types.ClType.{ClType}
use Rattle.cl_types.specs.declared.types.ClType.TheVariants as ty
use Rattle.cl_types.specs.declared.types.Member.{Member}
use Rattle.cl_types.specs.declared.types.TypeId.{TypeId}
use Rattle.cl_types.specs.Layout.{TypeTree, Void, size_of, align_of, up}
use Rattle.cl_types.specs.Table.{IsTable, AreBuilt, is_sized, tree_at, tree_of, trees}
use Rattle.cl_types.proofs.Rows.{tree_found, trees_length}
use Rattle.cl_tree.specs.declared.expression.TExpr.{TExpr}
use Rattle.cl_tree.specs.declared.expression.TNode.TheVariants as tnode
use Rattle.cl_tree.specs.declared.expression.TNode.TheViews.{out-TExpr}
use Rattle.cl_tree.specs.Constants.{constancy_of}
use Rattle.cl_tree.specs.Shapes.{shape_of}
use Rattle.cl_variables.specs.declared.image.Piece.{Piece}
use Rattle.cl_variables.specs.Bytes.{Filled, HasBytes, value, list, HavePieces, none, more, IsValueNode, patterns, list_bytes, value_bytes, little, packed, padded, size_at, align_at, is_whole, first_bytes, behind, before, members, inside, whole, part}
use Rattle.cl_variables.specs.Placing.{IsPut, elements_at, members_at}

first_of : {A : Type 0} (xs : List A) (at : ℕ) (x d : A) → at < length xs → x ≡ get_or xs at d → drop at xs ≡ x ∷ drop (at + 1) xs
first_of xs at x d h e = drop-cons xs at d h ∙ ap (λ z. z ∷ drop (suc at) xs) (sym e) ∙ ap (λ n. x ∷ drop n xs) (sym (add-one at))

-- ---- what is no type, and void, have no bytes

past_all : (ts : List TypeTree) (i : ℕ) → length ts ≤ i → tree_at ts i ≡ Void
past_all [] i h = refl
past_all (t ∷ ts) zero h = absurd (omega (arith, h))
past_all (t ∷ ts) (suc i) h = past_all ts i (omega (arith, h))

get_none : (cs : List ClType) (i : ℕ) → slice_get cs i ≡ None → length cs ≤ i
get_none [] i h = omega arith
get_none (c ∷ cs) zero h = absurd (true≢false (ap is_some h))
get_none (c ∷ cs) (suc i) h = let l = get_none cs i h in omega (arith, l)

unsized_by : (cs : List ClType) (i : ℕ) (o : Option ClType) → AreBuilt [] cs → slice_get cs i ≡ o → is_sized o ≡ false → tree_of cs i ≡ Void
unsized_by cs i None b e h = let l = get_none cs i e in let k = trees_length cs in past_all (trees cs) i (omega (arith, l, k))
unsized_by cs i (Some ty.Void) b e h = tree_found cs i ty.Void b e
unsized_by cs i (Some ty.Bool) b e h = absurd (true≢false h)
unsized_by cs i (Some (ty.Int bits signed)) b e h = absurd (true≢false h)
unsized_by cs i (Some (ty.Vector elem n)) b e h = absurd (true≢false h)
unsized_by cs i (Some (ty.Array elem n)) b e h = absurd (true≢false h)
unsized_by cs i (Some (ty.Struct name ms)) b e h = absurd (true≢false h)
unsized_by cs i (Some (ty.Pointer space to readonly restricted)) b e h = absurd (true≢false h)

pub no_size : (cs : List ClType) (t : TypeId) → IsTable cs → is_sized (slice_get cs t.0) ≡ false → 0 ≡ size_at cs t
no_size cs t b h = sym (ap size_of (unsized_by cs t.0 (slice_get cs t.0) b.built refl h))

pub no_align : (cs : List ClType) (t : TypeId) → IsTable cs → is_sized (slice_get cs t.0) ≡ false → 1 ≡ align_at cs t
no_align cs t b h = sym (ap align_of (unsized_by cs t.0 (slice_get cs t.0) b.built refl h))

-- ---- numbers

pub little_begin : (w n : ℕ) (bs : List ℕ) → bs ++ little (w - 0) n ≡ bs ++ little w n
little_begin w n bs = ap (λ k. bs ++ little k n) (omega arith)

pub little_more : (w i rest : ℕ) (bs cs all : List ℕ) → bs ++ little (w - i) rest ≡ all → i < w → cs ≡ bs ++ (rest % 256) ∷ [] → cs ++ little (w - (i + 1)) (rest / 256) ≡ all
little_more w i rest bs cs all h low push =
    let e : w - i ≡ suc (w - (i + 1)) = omega arith in
    let tail : List ℕ = little (w - (i + 1)) (rest / 256) in
    ap (λ z. z ++ tail) push ∙ append_assoc bs (rest % 256 ∷ []) tail ∙ sym (ap (λ k. bs ++ little k rest) e) ∙ h

pub little_end : (w i rest : ℕ) (bs all : List ℕ) → bs ++ little (w - i) rest ≡ all → w ≤ i → bs ≡ all
little_end w i rest bs all h done =
    let e : w - i ≡ 0 = omega arith in
    sym (append-nil bs) ∙ sym (ap (λ k. bs ++ little k rest) e) ∙ h

pub ruleset littles = (little_begin, little_more, little_end)

pub packed_begin : (w : ℕ) (ns bs : List ℕ) → bs ++ packed w (drop 0 ns) ≡ bs ++ packed w ns
packed_begin w ns bs = refl

pub packed_more : (w at n d : ℕ) (ns bs cs all : List ℕ) → bs ++ packed w (drop at ns) ≡ all → at < length ns → n ≡ get_or ns at d → cs ≡ bs ++ little w n → cs ++ packed w (drop (at + 1) ns) ≡ all
packed_more w at n d ns bs cs all h low is put =
    let tail : List ℕ = packed w (drop (at + 1) ns) in
    ap (λ z. z ++ tail) put ∙ append_assoc bs (little w n) tail ∙ sym (ap (λ z. bs ++ packed w z) (first_of ns at n d low is)) ∙ h

pub packed_end : (w at : ℕ) (ns bs all : List ℕ) → bs ++ packed w (drop at ns) ≡ all → length ns ≤ at → bs ≡ all
packed_end w at ns bs all h done = sym (append-nil bs) ∙ sym (ap (λ z. bs ++ packed w z) (drop_all at ns done)) ∙ h

pub ruleset packs = (packed_begin, packed_more, packed_end)

-- ---- the first piece

pub first_none : (pieces : List Piece) (at : ℕ) (bs cs : List ℕ) → length pieces ≤ at → cs ≡ bs → IsPut (first_bytes (drop at pieces), behind (drop at pieces)) bs cs pieces at
first_none pieces at bs cs done same =
    let e = drop_all at pieces done in
    record { bytes = same ∙ sym (append-nil bs) ∙ ap (λ z. bs ++ first_bytes z) (sym e); left = e ∙ ap behind (sym e) }

pub first_some : (pieces : List Piece) (at : ℕ) (p : Piece) (bs cs : List ℕ) → at < length pieces → p ≡ get_or pieces at p → cs ≡ bs ++ p.bytes → IsPut (first_bytes (drop at pieces), behind (drop at pieces)) bs cs pieces (at + 1)
first_some pieces at p bs cs low is put =
    let e = first_of pieces at p p low is in
    record { bytes = put ∙ ap (λ z. bs ++ first_bytes z) (sym e); left = sym (ap behind e) }

pub whole_none : (t : TypeId) (pieces : List Piece) (at : ℕ) → length pieces ≤ at → is_whole t (drop at pieces) ≡ false
whole_none t pieces at done = ap (is_whole t) (drop_all at pieces done)

pub whole_some : (t : TypeId) (pieces : List Piece) (at : ℕ) (p : Piece) → at < length pieces → p ≡ get_or pieces at p → nat_eq t.0 p.ty.0 ≡ is_whole t (drop at pieces)
whole_some t pieces at p low is = sym (ap (is_whole t) (first_of pieces at p p low is))

-- ---- parts

-- what is put behind those before, filled up to a size
pub put_padded : (f : Filled) (size : ℕ) (bs cs ds : List ℕ) (pieces : List Piece) (next : ℕ) → IsPut f bs cs pieces next → ds ≡ cs ++ replicate (length bs + size - length cs) 0 → IsPut (padded size f.0, f.1) bs ds pieces next
put_padded f size bs cs ds pieces next h pad =
    let len : length cs ≡ length bs + length f.0 = ap length h.bytes ∙ length-append bs f.0 in
    let e : length bs + size - length cs ≡ size - length f.0 = omega (arith, len) in
    record {
      bytes = pad ∙ ap (λ k. cs ++ replicate k 0) e ∙ ap (λ z. z ++ replicate (size - length f.0) 0) h.bytes ∙ append_assoc bs f.0 (replicate (size - length f.0) 0);
      left = h.left;
    }

put_as : (f g : Filled) (bs cs : List ℕ) (pieces : List Piece) (next : ℕ) → f ≡ g → IsPut f bs cs pieces next → IsPut g bs cs pieces next
put_as f g bs cs pieces next e h = subst (λ z. IsPut z bs cs pieces next) e h

or_cases : (a b : Bool) → (a || b) ≡ false → (a ≡ false) × (b ≡ false)
or_cases true b h = absurd (true≢false h)
or_cases false b h = (refl, h)

deep_still : (deep : ℕ) (b c : Bool) → (nat_eq (suc deep) 0 || b) ≡ c → b ≡ c
deep_still deep b c h = sym (ap (λ z. z || b) (eqb-suc-zero deep)) ∙ h

part_whole : (deep : ℕ) (cs : List ClType) (t : TypeId) (ps : List Piece) → (nat_eq deep 0 || is_whole t ps) ≡ true → part deep cs t ps ≡ (padded (size_at cs t) (first_bytes ps), behind ps)
part_whole zero cs t ps h = refl
part_whole (suc deep) cs t ps h = ap (λ b. if b then (padded (size_at cs t) (first_bytes ps), behind ps) else whole (size_at cs t) (inside cs (part deep cs) t (shape_of cs t) ps)) (deep_still deep (is_whole t ps) true h)

part_inside : (deep : ℕ) (cs : List ClType) (t : TypeId) (ps : List Piece) → (nat_eq deep 0 || is_whole t ps) ≡ false → part deep cs t ps ≡ whole (size_at cs t) (inside cs (part (deep - 1) cs) t (shape_of cs t) ps)
part_inside zero cs t ps h = absurd (true≢false h)
part_inside (suc deep) cs t ps h =
    let less : deep ≡ suc deep - 1 = omega arith in
    ap (λ b. if b then (padded (size_at cs t) (first_bytes ps), behind ps) else whole (size_at cs t) (inside cs (part deep cs) t (shape_of cs t) ps)) (deep_still deep (is_whole t ps) false h)
    ∙ ap (λ k. whole (size_at cs t) (inside cs (part k cs) t (shape_of cs t) ps)) less

module _ (deep : ℕ) (types : List ClType) (t : TypeId) (pieces : List Piece) (at next : ℕ) (bs cs ds : List ℕ) (pad : ds ≡ cs ++ replicate (length bs + size_at types t - length cs) 0) where
  pub part_first : (nat_eq deep 0 || is_whole t (drop at pieces)) ≡ true → IsPut (first_bytes (drop at pieces), behind (drop at pieces)) bs cs pieces next → IsPut (part deep types t (drop at pieces)) bs ds pieces next
  part_first w h = put_as _ _ bs ds pieces next (sym (part_whole deep types t (drop at pieces) w)) (put_padded _ (size_at types t) bs cs ds pieces next h pad)

  pub part_parts : (nat_eq deep 0 || is_whole t (drop at pieces)) ≡ false → IsPut (inside types (part (deep - 1) types) t (shape_of types t) (drop at pieces)) bs cs pieces next → IsPut (part deep types t (drop at pieces)) bs ds pieces next
  part_parts w h = put_as _ _ bs ds pieces next (sym (part_inside deep types t (drop at pieces) w)) (put_padded _ (size_at types t) bs cs ds pieces next h pad)

-- ---- elements

pub record ElementsPut (deep : ℕ) (types : List ClType) (elem : TypeId) (len : ℕ) (pieces : List Piece) (at : ℕ) (bs : List ℕ) (i next : ℕ) (cs : List ℕ) : Type 0 where
  pub bytes : cs ++ (elements_at deep types elem (len - i) (drop next pieces)).0 ≡ bs ++ (elements_at deep types elem len (drop at pieces)).0
  pub left : (elements_at deep types elem (len - i) (drop next pieces)).1 ≡ (elements_at deep types elem len (drop at pieces)).1

pub elements_begin : (deep : ℕ) (types : List ClType) (elem : TypeId) (len : ℕ) (pieces : List Piece) (at : ℕ) (bs : List ℕ) → ElementsPut deep types elem len pieces at bs 0 at bs
elements_begin deep types elem len pieces at bs =
    let e : len - 0 ≡ len = omega arith in
    record { bytes = ap (λ k. bs ++ (elements_at deep types elem k (drop at pieces)).0) e; left = ap (λ k. (elements_at deep types elem k (drop at pieces)).1) e }

pub elements_more : (deep : ℕ) (types : List ClType) (elem : TypeId) (len : ℕ) (pieces : List Piece) (at : ℕ) (bs : List ℕ) (i next after : ℕ) (cs ds : List ℕ) → ElementsPut deep types elem len pieces at bs i next cs → i < len → IsPut (part deep types elem (drop next pieces)) cs ds pieces after → ElementsPut deep types elem len pieces at bs (i + 1) after ds
elements_more deep types elem len pieces at bs i next after cs ds h low put =
    let e : len - i ≡ suc (len - (i + 1)) = omega arith in
    let one : Filled = part deep types elem (drop next pieces) in
    let rest : Filled = elements_at deep types elem (len - (i + 1)) one.1 in
    let open_up : elements_at deep types elem (len - i) (drop next pieces) ≡ before one.0 rest = ap (λ k. elements_at deep types elem k (drop next pieces)) e in
    let same : elements_at deep types elem (len - (i + 1)) (drop after pieces) ≡ rest = ap (elements_at deep types elem (len - (i + 1))) put.left in
    record {
      bytes = ap (λ z. ds ++ z.0) same ∙ ap (λ z. z ++ rest.0) put.bytes ∙ append_assoc cs one.0 rest.0 ∙ sym (ap (λ z. cs ++ z.0) open_up) ∙ h.bytes;
      left = ap (λ z. z.1) same ∙ sym (ap (λ z. z.1) open_up) ∙ h.left;
    }

pub elements_end : (deep : ℕ) (types : List ClType) (elem : TypeId) (len : ℕ) (pieces : List Piece) (at : ℕ) (bs : List ℕ) (i next : ℕ) (cs : List ℕ) → ElementsPut deep types elem len pieces at bs i next cs → len ≤ i → IsPut (elements_at deep types elem len (drop at pieces)) bs cs pieces next
elements_end deep types elem len pieces at bs i next cs h done =
    let e : len - i ≡ 0 = omega arith in
    record {
      bytes = sym (append-nil cs) ∙ sym (ap (λ k. cs ++ (elements_at deep types elem k (drop next pieces)).0) e) ∙ h.bytes;
      left = sym (ap (λ k. (elements_at deep types elem k (drop next pieces)).1) e) ∙ h.left;
    }

-- ---- members

pub record MembersPut (deep : ℕ) (types : List ClType) (ms : List Member) (pieces : List Piece) (at : ℕ) (bs : List ℕ) (start i next : ℕ) (cs : List ℕ) : Type 0 where
  pub begins : start ≡ length bs
  pub put : List ℕ
  pub is : cs ≡ bs ++ put
  pub same : members types (part deep types) (drop i ms) put (drop next pieces) ≡ members_at deep types ms (drop at pieces)

pub members_begin : (deep : ℕ) (types : List ClType) (ms : List Member) (pieces : List Piece) (at : ℕ) (bs : List ℕ) (start : ℕ) → start ≡ length bs → MembersPut deep types ms pieces at bs start 0 at bs
members_begin deep types ms pieces at bs start e = record { begins = e; put = []; is = sym (append-nil bs); same = refl }

module _ (deep : ℕ) (types : List ClType) (ms : List Member) (pieces : List Piece) (at : ℕ) (bs : List ℕ) (start i next : ℕ) (cs : List ℕ) (h : MembersPut deep types ms pieces at bs start i next cs) where
  pub starts_low : start ≤ length cs
  starts_low = omega (arith, h.begins, ap length h.is ∙ length-append bs h.put)

  pub members_more : (m : Member) (after : ℕ) (ds es : List ℕ) → i < length ms → m ≡ get_or ms i m → ds ≡ cs ++ replicate (start + up (align_at types m.ty) (length cs - start) - length cs) 0 → IsPut (part deep types m.ty (drop next pieces)) ds es pieces after → MembersPut deep types ms pieces at bs start (i + 1) after es
  members_more m after ds es low is pad put =
      let n : ℕ = up (align_at types m.ty) (length h.put) in
      let len : length cs ≡ length bs + length h.put = ap length h.is ∙ length-append bs h.put in
      let inner : length cs - start ≡ length h.put = omega (arith, len, h.begins) in
      let gap : start + n - length cs ≡ n - length h.put = omega (arith, len, h.begins) in
      let count : start + up (align_at types m.ty) (length cs - start) - length cs ≡ n - length h.put = ap (λ k. start + up (align_at types m.ty) k - length cs) inner ∙ gap in
      let one : Filled = part deep types m.ty (drop next pieces) in
      let padded_is : ds ≡ bs ++ padded n h.put = pad ∙ ap (λ k. cs ++ replicate k 0) count ∙ ap (λ z. z ++ replicate (n - length h.put) 0) h.is ∙ append_assoc bs h.put (replicate (n - length h.put) 0) in
      record {
        begins = h.begins;
        put = padded n h.put ++ one.0;
        is = put.bytes ∙ ap (λ z. z ++ one.0) padded_is ∙ append_assoc bs (padded n h.put) one.0;
        same = ap (members types (part deep types) (drop (i + 1) ms) (padded n h.put ++ one.0)) put.left
            ∙ sym (ap (λ z. members types (part deep types) z h.put (drop next pieces)) (first_of ms i m m low is)) ∙ h.same;
      }

  pub members_end : length ms ≤ i → IsPut (members_at deep types ms (drop at pieces)) bs cs pieces next
  members_end done =
      let e : (h.put, drop next pieces) ≡ members_at deep types ms (drop at pieces) = sym (ap (λ z. members types (part deep types) z h.put (drop next pieces)) (drop_all i ms done)) ∙ h.same in
      record { bytes = h.is ∙ ap (λ z. bs ++ z.0) e; left = ap (λ z. z.1) e }

-- ---- the pieces of a list

pub record PiecesGo (cs : List ClType) (ts : List TExpr) (i : ℕ) (ps : List Piece) : Type 0 where
  pub goes : (qs : List Piece) → HavePieces cs (drop i ts) qs → HavePieces cs ts (ps ++ qs)

pub pieces_begin : (cs : List ClType) (ts : List TExpr) (ps : List Piece) → ps ≡ [] → PiecesGo cs ts 0 ps
pieces_begin cs ts ps e = record { goes = λ qs h. subst (λ z. HavePieces cs ts (z ++ qs)) (sym e) h }

pub pieces_more : (cs : List ClType) (ts : List TExpr) (i : ℕ) (ps all : List Piece) (t : TExpr) (ty : TypeId) (bs : List ℕ) → PiecesGo cs ts i ps → i < length ts → t ≡ get_or ts i t → ty ≡ (out-TExpr t).ty → HasBytes cs t bs → all ≡ ps ++ record { ty = ty; bytes = bs } ∷ [] → PiecesGo cs ts (i + 1) all
pieces_more cs ts i ps all t ty bs h low is same has push = record {
  goes = λ qs rest.
      subst (HavePieces cs ts) (sym (append_assoc ps (record { ty = (out-TExpr t).ty; bytes = bs } ∷ []) qs) ∙ ap (λ z. (ps ++ record { ty = z; bytes = bs } ∷ []) ++ qs) (sym same) ∙ ap (λ z. z ++ qs) (sym push))
      (h.goes (record { ty = (out-TExpr t).ty; bytes = bs } ∷ qs) (subst (λ z. HavePieces cs z (record { ty = (out-TExpr t).ty; bytes = bs } ∷ qs)) (sym (first_of ts i t t low is)) (more t (drop (i + 1) ts) bs qs has rest)));
}

pub pieces_end : (cs : List ClType) (ts : List TExpr) (i : ℕ) (ps : List Piece) → PiecesGo cs ts i ps → length ts ≤ i → HavePieces cs ts ps
pieces_end cs ts i ps h done = subst (HavePieces cs ts) (append-nil ps) (h.goes [] (subst (λ z. HavePieces cs z []) (sym (drop_all i ts done)) none))

-- ---- the bytes of a tree

pub list_has : (cs : List ClType) (t : TExpr) (args : Vec TExpr) (ps : List Piece) (r : Result (List ℕ) NoMemory) → (out-TExpr t).node ≡ tnode.Fill args → HavePieces cs args.items ps → IfOk r (λ bs. bs ≡ list_bytes cs (out-TExpr t).ty (shape_of cs (out-TExpr t).ty) ps) → IfOk r (HasBytes cs t)
list_has cs t args ps (Ok bs) is have h = list t args ps bs is have h
list_has cs t args ps (Err s) is have h = h

pub value_has : (cs : List ClType) (t : TExpr) (ns : List ℕ) (r : Result (List ℕ) NoMemory) → IsValueNode (out-TExpr t).node → ns ≡ patterns (constancy_of cs t) → IfOk r (λ bs. bs ≡ value_bytes cs (out-TExpr t).ty ns) → IfOk r (HasBytes cs t)
value_has cs t ns (Ok bs) is same h = value t bs is (h ∙ ap (value_bytes cs (out-TExpr t).ty) same)
value_has cs t ns (Err s) is same h = h
