-- Declarations, parted where a block begins.
use Rattle.std.proofs.Common.{◌≡◌, ℕ, suc, ◌<◌, ◌≤◌, min, Bool, true, false, Option, Some, None, List, [], ◌∷◌, ◌++◌, length, drop, get_or, refl, sym, ap, ◌∙◌, arith, length-append, ◌+◌}
use Rattle.std.specs.Prelude.{if◌then◌else◌, nat_lt, nat_le, is_some}
use Rattle.std.proofs.lemmas.Bool.{lt-ltb, le-ltb, ltb-true, ltb-false, le-leb, lt-leb}
use Rattle.std.proofs.lemmas.List.{drop_more, drop_all}
use Rattle.cl_scope.specs.declared.scope.Declared.{Declared}
use Rattle.cl_scope.specs.declared.scope.Signature.{Signature}
use Rattle.cl_scope.specs.Names.{Env, entered, declare, inner_at, outer_at, left_at, IsLeft, is_called, newest}
use Rattle.cl_scope.specs.Rows.{newest_at}
use Rattle.cl_scope.specs.Scopes.{declared_in, blocks_in}
use Rattle.cl_scope.proofs.Choice.{chosen}
use Rattle.cl_scope.proofs.Indexed.{IsBelow, newest_below}

-- ---- the two parts

outer_here : (mark : ℕ) (d : Declared) (ds : List Declared) → length ds < mark → outer_at mark (d ∷ ds) ≡ d ∷ ds
outer_here mark d ds h = chosen (nat_lt (length ds) mark) true (d ∷ ds) (outer_at mark ds) (lt-ltb (length ds) mark h)

outer_later : (mark : ℕ) (d : Declared) (ds : List Declared) → mark ≤ length ds → outer_at mark (d ∷ ds) ≡ outer_at mark ds
outer_later mark d ds h = chosen (nat_lt (length ds) mark) false (d ∷ ds) (outer_at mark ds) (le-ltb (length ds) mark h)

inner_here : (mark : ℕ) (d : Declared) (ds : List Declared) → length ds < mark → inner_at mark (d ∷ ds) ≡ []
inner_here mark d ds h = chosen (nat_lt (length ds) mark) true [] (d ∷ inner_at mark ds) (lt-ltb (length ds) mark h)

inner_later : (mark : ℕ) (d : Declared) (ds : List Declared) → mark ≤ length ds → inner_at mark (d ∷ ds) ≡ d ∷ inner_at mark ds
inner_later mark d ds h = chosen (nat_lt (length ds) mark) false [] (d ∷ inner_at mark ds) (le-ltb (length ds) mark h)

pub outer_all : (mark : ℕ) (ds : List Declared) → length ds ≤ mark → outer_at mark ds ≡ ds
outer_all mark [] h = refl
outer_all mark (d ∷ ds) h = outer_here mark d ds (omega arith)

pub inner_none : (mark : ℕ) (ds : List Declared) → length ds ≤ mark → inner_at mark ds ≡ []
inner_none mark [] h = refl
inner_none mark (d ∷ ds) h = inner_here mark d ds (omega arith)

pub outer_drop : (mark : ℕ) (ds : List Declared) → mark < length ds → outer_at mark (drop 1 ds) ≡ outer_at mark ds
outer_drop mark [] h = refl
outer_drop mark (d ∷ ds) h = sym (outer_later mark d ds (omega arith))

pub fewer : (mark : ℕ) (ds : List Declared) → mark < length ds → length (drop 1 ds) < length ds
fewer mark [] h = absurd (omega arith)
fewer mark (d ∷ ds) h = omega arith

pub parts : (mark : ℕ) (ds : List Declared) → inner_at mark ds ++ outer_at mark ds ≡ ds
parts mark [] = refl
parts mark (d ∷ ds) = by (nat_lt (length ds) mark) (parts mark ds)
  where
    by : (b : Bool) → inner_at mark ds ++ outer_at mark ds ≡ ds → (if b then [] else (d ∷ inner_at mark ds)) ++ (if b then (d ∷ ds) else outer_at mark ds) ≡ d ∷ ds
    by true rest = refl
    by false rest = ap (λ es. d ∷ es) rest

pub outer_length : (mark : ℕ) (ds : List Declared) → mark ≤ length ds → length (outer_at mark ds) ≡ mark
outer_length mark [] h = omega arith
outer_length mark (d ∷ ds) h = by (nat_lt (length ds) mark) refl (outer_length mark ds)
  where
    by : (b : Bool) → nat_lt (length ds) mark ≡ b → (mark ≤ length ds → length (outer_at mark ds) ≡ mark) → length (if b then (d ∷ ds) else outer_at mark ds) ≡ mark
    by true e rest = let low = ltb-true (length ds) mark e in omega arith
    by false e rest = rest (ltb-false (length ds) mark e)

-- a list of two parts is parted where the second begins
split_inner : (mark : ℕ) (ds es : List Declared) → mark ≡ length es → inner_at mark (ds ++ es) ≡ ds
split_inner mark [] es h = inner_none mark es (omega arith)
split_inner mark (d ∷ ds) es h = inner_later mark d (ds ++ es) (omega (arith, length-append ds es)) ∙ ap (λ l. d ∷ l) (split_inner mark ds es h)

split_outer : (mark : ℕ) (ds es : List Declared) → mark ≡ length es → outer_at mark (ds ++ es) ≡ es
split_outer mark [] es h = outer_all mark es (omega arith)
split_outer mark (d ∷ ds) es h = outer_later mark d (ds ++ es) (omega (arith, length-append ds es)) ∙ split_outer mark ds es h

-- ---- entering and leaving

abbrev pub names_at : ℕ → List Declared → List Signature → Env
names_at mark ds functions = record { outer = outer_at mark ds; inner = inner_at mark ds; functions = functions }

pub enters : (mark last : ℕ) (ds : List Declared) (functions : List Signature) → last ≡ length ds → names_at last ds functions ≡ entered (names_at mark ds functions)
enters mark last ds functions e =
    let outer : outer_at last ds ≡ inner_at mark ds ++ outer_at mark ds = outer_all last ds (omega arith) ∙ sym (parts mark ds) in
    let inner : inner_at last ds ≡ [] = inner_none last ds (omega arith) in
    ap (λ l. record { outer = outer_at last ds; inner = l; functions = functions }) inner ∙ ap (λ l. record { outer = l; inner = []; functions = functions }) outer

-- a mark above the block round it is as good as that block's own
low_outer : (mark block : ℕ) (ds : List Declared) → length ds ≤ block → outer_at (min mark block) ds ≡ outer_at mark ds
low_outer mark block [] h = refl
low_outer mark block (d ∷ ds) h = by (nat_lt (length ds) mark) refl (low_outer mark block ds (omega arith))
  where
    by : (b : Bool) → nat_lt (length ds) mark ≡ b → outer_at (min mark block) ds ≡ outer_at mark ds → outer_at (min mark block) (d ∷ ds) ≡ outer_at mark (d ∷ ds)
    by true e rest = let low = ltb-true (length ds) mark e in outer_here (min mark block) d ds (omega arith) ∙ sym (outer_here mark d ds low)
    by false e rest = let high = ltb-false (length ds) mark e in outer_later (min mark block) d ds (omega arith) ∙ rest ∙ sym (outer_later mark d ds high)

low_inner : (mark block : ℕ) (ds : List Declared) → length ds ≤ block → inner_at (min mark block) ds ≡ inner_at mark ds
low_inner mark block [] h = refl
low_inner mark block (d ∷ ds) h = by (nat_lt (length ds) mark) refl (low_inner mark block ds (omega arith))
  where
    by : (b : Bool) → nat_lt (length ds) mark ≡ b → inner_at (min mark block) ds ≡ inner_at mark ds → inner_at (min mark block) (d ∷ ds) ≡ inner_at mark (d ∷ ds)
    by true e rest = let low = ltb-true (length ds) mark e in inner_here (min mark block) d ds (omega arith) ∙ sym (inner_here mark d ds low)
    by false e rest = let high = ltb-false (length ds) mark e in inner_later (min mark block) d ds (omega arith) ∙ ap (λ l. d ∷ l) rest ∙ sym (inner_later mark d ds high)

pub leaves : (mark block last : ℕ) (old new : List Declared) (functions : List Signature) → block ≤ length old → new ≡ outer_at block old → last ≡ min mark block → names_at last new functions ≡ left_at mark (names_at block old functions)
leaves mark block last old new functions fits is low =
    let ds = outer_at block old in
    let n : length ds ≤ block = omega (arith, outer_length block old fits) in
    ap (λ k. names_at k new functions) low
    ∙ ap (λ l. names_at (min mark block) l functions) is
    ∙ ap (λ l. record { outer = l; inner = inner_at (min mark block) ds; functions = functions }) (low_outer mark block ds n)
    ∙ ap (λ l. record { outer = outer_at mark ds; inner = l; functions = functions }) (low_inner mark block ds n)

pub mark_fits : (mark block last : ℕ) (old new : List Declared) → block ≤ length old → new ≡ outer_at block old → last ≡ min mark block → last ≤ length new
mark_fits mark block last old new fits is low = omega (arith, outer_length block old fits, ap length is)

pub goes_back : (inside left : Env) (mark : ℕ) → left ≡ left_at mark inside → IsLeft inside mark left
goes_back inside left mark is env outer marked =
    let first : outer_at mark inside.outer ≡ env.outer = ap (outer_at mark) outer ∙ split_outer mark env.inner env.outer marked in
    let second : inner_at mark inside.outer ≡ env.inner = ap (inner_at mark) outer ∙ split_inner mark env.inner env.outer marked in
    is
    ∙ ap (λ l. record { outer = l; inner = inner_at mark inside.outer; functions = inside.functions }) first
    ∙ ap (λ l. record { outer = env.outer; inner = l; functions = inside.functions }) second

-- one more declaration, in the innermost block
pub declares : (mark : ℕ) (d : Declared) (ds : List Declared) (functions : List Signature) → mark ≤ length ds → names_at mark (d ∷ ds) functions ≡ record { outer = outer_at mark ds; inner = d ∷ inner_at mark ds; functions = functions }
declares mark d ds functions h =
    ap (λ l. record { outer = l; inner = inner_at mark (d ∷ ds); functions = functions }) (outer_later mark d ds h)
    ∙ ap (λ l. record { outer = outer_at mark ds; inner = l; functions = functions }) (inner_later mark d ds h)

-- ---- what the innermost block declares itself

abbrev pub is_inside : ℕ → Option ℕ → Bool
is_inside mark None = false
is_inside mark (Some at) = nat_le mark at

outside : (mark : ℕ) (o : Option ℕ) (n : ℕ) → IsBelow o n → n ≤ mark → is_inside mark o ≡ false
outside mark None n h k = refl
outside mark (Some at) n h k = lt-leb mark at (omega arith)

pub inside : (tag : Bool) (name : List ℕ) (mark : ℕ) (ds : List Declared) → is_inside mark (newest_at tag name ds) ≡ is_some (newest tag name (inner_at mark ds))
inside tag name mark [] = refl
inside tag name mark (d ∷ ds) = by (nat_lt (length ds) mark) refl (inside tag name mark ds)
  where
    own : mark ≤ length ds → is_inside mark (newest_at tag name ds) ≡ is_some (newest tag name (inner_at mark ds)) → (c : Bool) → is_inside mark (if c then Some (length ds) else newest_at tag name ds) ≡ is_some (if c then Some d else newest tag name (inner_at mark ds))
    own h rest true = le-leb mark (length ds) h
    own h rest false = rest

    by : (b : Bool) → nat_lt (length ds) mark ≡ b → is_inside mark (newest_at tag name ds) ≡ is_some (newest tag name (inner_at mark ds)) → is_inside mark (newest_at tag name (d ∷ ds)) ≡ is_some (newest tag name (inner_at mark (d ∷ ds)))
    by true e rest =
        let low = ltb-true (length ds) mark e in
        outside mark (newest_at tag name (d ∷ ds)) (suc (length ds)) (newest_below tag name (d ∷ ds)) (omega arith) ∙ ap (λ l. is_some (newest tag name l)) (sym (inner_here mark d ds low))
    by false e rest =
        let high = ltb-false (length ds) mark e in
        own high rest (is_called tag name d) ∙ ap (λ l. is_some (newest tag name l)) (sym (inner_later mark d ds high))

-- ---- the declarations of a scope, one after another

first_left : {A : Type 0} (xs : List A) (i : ℕ) (x : A) → i < length xs → x ≡ get_or xs i x → drop i xs ≡ x ∷ drop (i + 1) xs
first_left xs i x h e = drop_more xs i x h ∙ ap (λ y. y ∷ drop (i + 1) xs) (sym e)

pub declared_more : (ds : List Declared) (i : ℕ) (d : Declared) (names new : Env) → i < length ds → d ≡ get_or ds i d → new ≡ declare d names → declared_in (drop (i + 1) ds) new ≡ declared_in (drop i ds) names
declared_more ds i d names new h e n = ap (declared_in (drop (i + 1) ds)) n ∙ sym (ap (λ l. declared_in l names) (first_left ds i d h e))

pub declared_end : (ds : List Declared) (i : ℕ) (names : Env) → length ds ≤ i → declared_in (drop i ds) names ≡ names
declared_end ds i names h = ap (λ l. declared_in l names) (drop_all i ds h)

pub blocks_more : (bs : List (List Declared)) (i : ℕ) (b : List Declared) (names middle new : Env) → i < length bs → b ≡ get_or bs i b → middle ≡ entered names → new ≡ declared_in b middle → blocks_in (drop (i + 1) bs) new ≡ blocks_in (drop i bs) names
blocks_more bs i b names middle new h e m n = ap (blocks_in (drop (i + 1) bs)) (n ∙ ap (declared_in b) m) ∙ sym (ap (λ l. blocks_in l names) (first_left bs i b h e))

pub blocks_end : (bs : List (List Declared)) (i : ℕ) (names : Env) → length bs ≤ i → blocks_in (drop i bs) names ≡ names
blocks_end bs i names h = ap (λ l. blocks_in l names) (drop_all i bs h)

pub ruleset copyings = (declared_more, declared_end, blocks_more, blocks_end)

pub ruleset truncations = (outer_all, outer_drop, fewer)
