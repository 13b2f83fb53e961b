-- What stands beside a name in a table that is made of others.
use Rattle.std.proofs.Common.{◌≡◌, ℕ, ◌-◌, List, [], ◌∷◌, ◌++◌, length, take, drop, refl, sym, ap, ◌∙◌, arith, Bool, true, false, cond, Option, Some, None, true≢false}
use Rattle.std.specs.Prelude.{◌&&◌, nat_eq, bytes_eq, option_map, is_some}
use Rattle.std.specs.Cmp.{first_so, second_so}
use Rattle.std.specs.Cmp.Lexicographic.{bytes_decides}
use Rattle.std.proofs.lemmas.List.{length-append, take_at, drop_at, take-append-drop}
use Rattle.cl_builtins.specs.Names.{lookup, before, behind, beside}

none_some : {A : Type 0} {x : A} → None ≡ Some x → ⊥
none_some e = true≢false (sym (ap is_some e))

some_same : {A : Type 0} (x y : A) → Some x ≡ Some y → x ≡ y
some_same x y e = cc

bool_same : (a b : Bool) → (a ≡ true → b ≡ true) → (b ≡ true → a ≡ true) → a ≡ b
bool_same true b f g = sym (f refl)
bool_same false true f g = g refl
bool_same false false f g = refl

both : (a b : Bool) → a ≡ true → b ≡ true → (a && b) ≡ true
both a b h g = (λ i. h i && g i)

and_assoc : (a b c : Bool) → (a && (b && c)) ≡ ((a && b) && c)
and_assoc true b c = refl
and_assoc false b c = refl

-- ---- a table behind another

first_in : {A : Type 0} (es fs : List (List ℕ × A)) (name : List ℕ) (x : A) → lookup es name ≡ Some x → lookup (es ++ fs) name ≡ Some x
first_in [] fs name x h = absurd (none_some h)
first_in (e ∷ es) fs name x h = by (bytes_eq name e.0) h (first_in es fs name x)
  where
    by : (b : Bool) → cond b (Some e.1) (lookup es name) ≡ Some x → (lookup es name ≡ Some x → lookup (es ++ fs) name ≡ Some x) → cond b (Some e.1) (lookup (es ++ fs) name) ≡ Some x
    by true h f = h
    by false h f = f h

then_in : {A : Type 0} (es fs : List (List ℕ × A)) (name : List ℕ) → lookup es name ≡ None → lookup (es ++ fs) name ≡ lookup fs name
then_in [] fs name h = refl
then_in (e ∷ es) fs name h = by (bytes_eq name e.0) h (then_in es fs name)
  where
    by : (b : Bool) → cond b (Some e.1) (lookup es name) ≡ None → (lookup es name ≡ None → lookup (es ++ fs) name ≡ lookup fs name) → cond b (Some e.1) (lookup (es ++ fs) name) ≡ lookup fs name
    by true h f = absurd (none_some (sym h))
    by false h f = f h

pub first_found : {A : Type 0} (es fs : List (List ℕ × A)) (name : List ℕ) (x : A) → Some x ≡ lookup es name → Some x ≡ lookup (es ++ fs) name
first_found es fs name x h = sym (first_in es fs name x (sym h))

pub then_found : {A : Type 0} (es fs : List (List ℕ × A)) (name : List ℕ) (r : Option A) → None ≡ lookup es name → r ≡ lookup fs name → r ≡ lookup (es ++ fs) name
then_found es fs name r h g = g ∙ sym (then_in es fs name (sym h))

-- ---- with a word before each name

before_eq : (p m n : List ℕ) → bytes_eq n (p ++ m) ≡ (bytes_eq (take (length p) n) p && bytes_eq (drop (length p) n) m)
before_eq [] m n = refl
before_eq (x ∷ p) m [] = refl
before_eq (x ∷ p) m (y ∷ n) = ap (λ r. nat_eq y x && r) (before_eq p m n) ∙ and_assoc (nat_eq y x) (bytes_eq (take (length p) n) p) (bytes_eq (drop (length p) n) m)

before_step : {A : Type 0} (b d : Bool) (x : A) (l r : Option A) → l ≡ cond b r None → cond (b && d) (Some x) l ≡ cond b (cond d (Some x) r) None
before_step true true x l r h = refl
before_step true false x l r h = h
before_step false d x l r h = h

no_value : {X : Type 0} (b : Bool) (x : X) → x ≡ cond b x x
no_value true x = refl
no_value false x = refl

lookup-before : {A : Type 0} (word : List ℕ) (es : List (List ℕ × A)) (name : List ℕ) → lookup (before word es) name ≡ cond (bytes_eq (take (length word) name) word) (lookup es (drop (length word) name)) None
lookup-before word [] name = no_value (bytes_eq (take (length word) name) word) None
lookup-before word (e ∷ es) name =
    ap (λ b. cond b (Some e.1) (lookup (before word es) name)) (before_eq word e.0 name) ∙
    before_step (bytes_eq (take (length word) name) word) (bytes_eq (drop (length word) name) e.0) e.1 (lookup (before word es) name) (lookup es (drop (length word) name)) (lookup-before word es name)

pub before_found : {A : Type 0} (word : List ℕ) (es : List (List ℕ × A)) (name rest : List ℕ) (r : Option A) → bytes_eq (take (length word) name) word ≡ true → rest ≡ drop (length word) name → r ≡ lookup es rest → r ≡ lookup (before word es) name
before_found word es name rest r h d e = e ∙ ap (lookup es) d ∙ sym (lookup-before word es name ∙ ap (λ b. cond b (lookup es (drop (length word) name)) None) h)

pub before_other : {A : Type 0} (word : List ℕ) (es : List (List ℕ × A)) (name : List ℕ) → bytes_eq (take (length word) name) word ≡ false → None ≡ lookup (before word es) name
before_other word es name h = sym (lookup-before word es name ∙ ap (λ b. cond b (lookup es (drop (length word) name)) None) h)

-- ---- with a word behind each name

module _ (s m n : List ℕ) where
  behind_is : n ≡ m ++ s → length n - length s ≡ length m
  behind_is e = let l = ap length e ∙ length-append m s in omega arith

  behind_eq : bytes_eq n (m ++ s) ≡ (bytes_eq (drop (length n - length s) n) s && bytes_eq (take (length n - length s) n) m)
  behind_eq = bool_same (bytes_eq n (m ++ s)) (bytes_eq (drop (length n - length s) n) s && bytes_eq (take (length n - length s) n) m) there back
    where
      there : bytes_eq n (m ++ s) ≡ true → (bytes_eq (drop (length n - length s) n) s && bytes_eq (take (length n - length s) n) m) ≡ true
      there h =
          let e = (bytes_decides n (m ++ s)).0 h in
          let k = behind_is e in
          both (bytes_eq (drop (length n - length s) n) s) (bytes_eq (take (length n - length s) n) m)
          ((bytes_decides (drop (length n - length s) n) s).1 (ap (λ j. drop j n) k ∙ ap (drop (length m)) e ∙ drop_at m s (length m) refl))
          ((bytes_decides (take (length n - length s) n) m).1 (ap (λ j. take j n) k ∙ ap (take (length m)) e ∙ take_at m s (length m) refl))

      back : (bytes_eq (drop (length n - length s) n) s && bytes_eq (take (length n - length s) n) m) ≡ true → bytes_eq n (m ++ s) ≡ true
      back h =
          let d = (bytes_decides (drop (length n - length s) n) s).0 (first_so (bytes_eq (drop (length n - length s) n) s) (bytes_eq (take (length n - length s) n) m) h) in
          let t = (bytes_decides (take (length n - length s) n) m).0 (second_so (bytes_eq (drop (length n - length s) n) s) (bytes_eq (take (length n - length s) n) m) h) in
          (bytes_decides n (m ++ s)).1 (sym (take-append-drop (length n - length s) n) ∙ ap (λ z. z ++ drop (length n - length s) n) t ∙ ap (λ z. m ++ z) d)

behind_step : {A B : Type 0} (f : A → B) (b d : Bool) (x : A) (l : Option B) (r : Option A) → l ≡ cond b (option_map f r) None → cond (b && d) (Some (f x)) l ≡ cond b (option_map f (cond d (Some x) r)) None
behind_step f true true x l r h = refl
behind_step f true false x l r h = h
behind_step f false d x l r h = h

lookup-behind : {A B : Type 0} (word : List ℕ) (f : A → B) (es : List (List ℕ × A)) (name : List ℕ) → lookup (behind word f es) name ≡ cond (bytes_eq (drop (length name - length word) name) word) (option_map f (lookup es (take (length name - length word) name))) None
lookup-behind word f [] name = no_value (bytes_eq (drop (length name - length word) name) word) None
lookup-behind word f (e ∷ es) name =
    ap (λ b. cond b (Some (f e.1)) (lookup (behind word f es) name)) (behind_eq word e.0 name) ∙
    behind_step f (bytes_eq (drop (length name - length word) name) word) (bytes_eq (take (length name - length word) name) e.0) e.1 (lookup (behind word f es) name) (lookup es (take (length name - length word) name)) (lookup-behind word f es name)

pub behind_found : {A B : Type 0} (word : List ℕ) (f : A → B) (es : List (List ℕ × A)) (name front : List ℕ) (r : Option A) → bytes_eq (drop (length name - length word) name) word ≡ true → front ≡ take (length name - length word) name → r ≡ lookup es front → option_map f r ≡ lookup (behind word f es) name
behind_found word f es name front r h d e = ap (option_map f) (e ∙ ap (lookup es) d) ∙ sym (lookup-behind word f es name ∙ ap (λ b. cond b (option_map f (lookup es (take (length name - length word) name))) None) h)

pub behind_other : {A B : Type 0} (word : List ℕ) (f : A → B) (es : List (List ℕ × A)) (name : List ℕ) → bytes_eq (drop (length name - length word) name) word ≡ false → None ≡ lookup (behind word f es) name
behind_other word f es name h = sym (lookup-behind word f es name ∙ ap (λ b. cond b (option_map f (lookup es (take (length name - length word) name))) None) h)

-- ---- with something else beside each name

beside_step : {A B : Type 0} (f : A → B) (b : Bool) (x : A) (l : Option B) (r : Option A) → l ≡ option_map f r → cond b (Some (f x)) l ≡ option_map f (cond b (Some x) r)
beside_step f true x l r h = refl
beside_step f false x l r h = h

lookup-beside : {A B : Type 0} (f : A → B) (es : List (List ℕ × A)) (name : List ℕ) → lookup (beside f es) name ≡ option_map f (lookup es name)
lookup-beside f [] name = refl
lookup-beside f (e ∷ es) name = beside_step f (bytes_eq name e.0) e.1 (lookup (beside f es) name) (lookup es name) (lookup-beside f es name)

pub beside_found : {A B : Type 0} (f : A → B) (es : List (List ℕ × A)) (name : List ℕ) (r : Option A) → r ≡ lookup es name → option_map f r ≡ lookup (beside f es) name
beside_found f es name r e = ap (option_map f) e ∙ sym (lookup-beside f es name)

-- ---- what holds beside all names

abbrev pub all_beside : {A : Type 0} → (A → Bool) → List (List ℕ × A) → Bool
all_beside p [] = true
all_beside p (e ∷ es) = p e.1 && all_beside p es

pub lookup_all : {A : Type 0} (p : A → Bool) (es : List (List ℕ × A)) (name : List ℕ) (x : A) → all_beside p es ≡ true → lookup es name ≡ Some x → p x ≡ true
lookup_all p [] name x a h = absurd (none_some h)
lookup_all p (e ∷ es) name x a h = by (bytes_eq name e.0) h (lookup_all p es name x (second_so (p e.1) (all_beside p es) a))
  where
    by : (b : Bool) → cond b (Some e.1) (lookup es name) ≡ Some x → (lookup es name ≡ Some x → p x ≡ true) → p x ≡ true
    by true h f = ap p (sym (some_same e.1 x h)) ∙ first_so (p e.1) (all_beside p es) a
    by false h f = f h
