-- Rule 35: the structure of a function's blocks (SPIR-V 2.11).
use Rattle.std.specs.Prelude.{◌≡◌, ℕ, Bool, true, false, ◌==◌, ◌&&◌, ◌||◌, if◌then◌else◌, List, [], ◌∷◌, ◌++◌}
use Rattle.spv_module.specs.declared.op.TheConstants as op
use Rattle.spv_module.specs.Grammar.{is_among}
use Rattle.spv_types_rules.specs.Lines.{Line, has_op, has_op_among, first, second, rest}
use Rattle.spv_types_rules.specs.Functions.{Block, blocks_in, is_merge}

-- ---- how blocks end

pub data End : Type 0 where
  -- a return, or OpUnreachable
  Leaves : End
  -- a branch; a conditional branch without a merge
  Goes : ℕ → End
  Forks : ℕ → ℕ → End
  -- a merge, and the targets of a conditional branch
  Chooses : ℕ → ℕ → ℕ → End
  -- a merge, the default, and the targets of the literals in their order
  Switches : ℕ → ℕ → List ℕ → End
  -- a merge, a continue block, and the branch behind them
  Loops : ℕ → ℕ → End → End
  -- any other
  Ill : End

-- an end without a merge, by the last line
abbrev pub end_by : Line → End
end_by l =
    if has_op_among (op.RETURN ∷ op.RETURN_VALUE ∷ op.UNREACHABLE ∷ []) l then Leaves else (
    if has_op op.BRANCH l then Goes (first l.ids) else (
    if has_op op.BRANCH_CONDITIONAL l then Forks (second l.ids) (first (rest (rest l.ids))) else Ill))

-- an end with a merge, by that and the last line
abbrev pub construct_by : Line → Line → End
construct_by m l =
    if has_op op.LOOP_MERGE m then Loops (first m.ids) (second m.ids) (end_by l) else (
    if has_op op.BRANCH_CONDITIONAL l then Chooses (first m.ids) (second l.ids) (first (rest (rest l.ids))) else (
    if has_op op.SWITCH l then Switches (first m.ids) (second l.ids) (rest (rest l.ids)) else Ill))

abbrev pub end_of : List Line → End
end_of [] = Ill
end_of (l ∷ []) = end_by l
end_of (m ∷ l ∷ []) = if is_merge m then construct_by m l else end_by l
end_of (_ ∷ m ∷ l ∷ ls) = end_of (m ∷ l ∷ ls)

-- ---- where a sequence may end

-- What exits may name: whether there are exits at all; the merge and the continue block of the innermost loop; the merge of the innermost switch inside that loop.
pub record Around : Type 0 where
  pub exits : Bool
  pub loop : List ℕ
  pub switch : List ℕ

abbrev pub outermost : Around
outermost = record { exits = true; loop = []; switch = [] }

abbrev pub in_switch : Around → ℕ → Around
in_switch a m = record { exits = a.exits; loop = a.loop; switch = m ∷ [] }

abbrev pub in_loop : Around → ℕ → ℕ → Around
in_loop a m c = record { exits = a.exits; loop = m ∷ c ∷ []; switch = [] }

-- a continue part has no exits, also in the constructs that stand in it
abbrev pub in_continue : Around
in_continue = record { exits = false; loop = []; switch = [] }

-- An exit ends a sequence: a return, OpUnreachable, or a branch out of the innermost loop or switch.
abbrev pub is_way_out : Around → End → Bool
is_way_out a Leaves = true
is_way_out a (Goes k) = is_among (a.loop ++ a.switch) k
is_way_out a _ = false

abbrev pub is_exit : Around → End → Bool
is_exit a e = a.exits && is_way_out a e

-- What a sequence may end in besides: a branch to one of some blocks; or a loop's way back to its header, which may lead to its merge too.
pub data Ending : Type 0 where
  To : List ℕ → Ending
  Back : ℕ → ℕ → Ending

abbrev pub are_two : ℕ → ℕ → ℕ → ℕ → Bool
are_two t f x y = ((t == x) && (f == y)) || ((t == y) && (f == x))

-- a branch to a block, or a conditional one to it and a merge
abbrev pub leads : ℕ → ℕ → End → Bool
leads m x (Goes k) = k == x
leads m x (Forks t f) = are_two t f x m
leads m x _ = false

abbrev pub is_branch_to : List ℕ → End → Bool
is_branch_to ks (Goes k) = is_among ks k
is_branch_to ks _ = false

abbrev pub is_ending : Ending → End → Bool
is_ending (To ks) e = is_branch_to ks e
is_ending (Back header merge) e = leads merge header e

abbrev pub closes : Around → Ending → End → Bool
closes a ending e = is_exit a e || is_ending ending e

-- ---- the arms of a construct

-- of some targets those that aren't passed over, each once, in order
abbrev pub arms_of : List ℕ → List ℕ → List ℕ
arms_of passed [] = []
arms_of passed (t ∷ ts) = if is_among passed t then arms_of passed ts else t ∷ arms_of (t ∷ passed) ts

-- the arms of a switch that its literals name, and one that the default alone names
abbrev pub cases : ℕ → List ℕ → List ℕ
cases m ts = arms_of (m ∷ []) ts

abbrev pub own_default : ℕ → ℕ → List ℕ → List ℕ
own_default m d ts = arms_of (m ∷ ts) (d ∷ [])

-- an arm ends in a branch to the merge or, in a switch, to the arm that follows
abbrev pub following : Bool → List ℕ → List ℕ
following true (l ∷ _) = l ∷ []
following _ _ = []

abbrev pub arm_ending : Bool → ℕ → List ℕ → Ending
arm_ending falls m ls = To (m ∷ following falls ls)

-- ---- sequences

mutual
  -- These blocks are a sequence, whose first has a label. Each block ends in an exit or ending, which ends the sequence; in a branch to the next; or in a construct, behind whose parts its merge goes on.
  pub data IsSequence : Around → Ending → ℕ → List Block → Type 0 where
    closed : (a : Around) (e : Ending) (b : Block) → closes a e (end_of b.lines) ≡ true → IsSequence a e b.label (b ∷ [])
    goes_on : (a : Around) (e : Ending) (b : Block) (k : ℕ) (more : List Block) → end_of b.lines ≡ Goes k → IsSequence a e k more → IsSequence a e b.label (b ∷ more)
    -- the arms are those of the two targets that aren't the merge
    chooses : (a : Around) (e : Ending) (b : Block) (m t f : ℕ) (arms more : List Block) → end_of b.lines ≡ Chooses m t f → AreArms a false m (arms_of (m ∷ []) (t ∷ f ∷ [])) arms → IsSequence a e m more → IsSequence a e b.label (b ∷ (arms ++ more))
    -- an arm that the default alone names stands anywhere among the others
    switches : (a : Around) (e : Ending) (b : Block) (m d : ℕ) (ts before after : List ℕ) (arms more : List Block) → end_of b.lines ≡ Switches m d ts → cases m ts ≡ before ++ after → AreArms (in_switch a m) true m (before ++ (own_default m d ts ++ after)) arms → IsSequence a e m more → IsSequence a e b.label (b ∷ (arms ++ more))
    -- the header leads to the body, whose blocks follow; then the continue part stands
    loops : (a : Around) (e : Ending) (b : Block) (m c k : ℕ) (jump : End) (body again more : List Block) → end_of b.lines ≡ Loops m c jump → leads m k jump ≡ true → IsSequence (in_loop a m c) (To (c ∷ [])) k body → IsSequence in_continue (Back b.label m) c again → IsSequence a e m more → IsSequence a e b.label (b ∷ (body ++ (again ++ more)))

  -- These blocks are the arms with these labels, in order.
  pub data AreArms : Around → Bool → ℕ → List ℕ → List Block → Type 0 where
    none : (a : Around) (falls : Bool) (m : ℕ) → AreArms a falls m [] []
    more : (a : Around) (falls : Bool) (m l : ℕ) (ls : List ℕ) (arm arms : List Block) → IsSequence a (arm_ending falls m ls) l arm → AreArms a falls m ls arms → AreArms a falls m (l ∷ ls) (arm ++ arms)

abbrev pub first_label : List Block → ℕ
first_label [] = 0
first_label (b ∷ _) = b.label

-- Rule 35. The blocks of a function, in their order, are one sequence.
abbrev pub IsStructured : List Line → Type 0
IsStructured lines = IsSequence outermost (To []) (first_label (blocks_in lines)) (blocks_in lines)
