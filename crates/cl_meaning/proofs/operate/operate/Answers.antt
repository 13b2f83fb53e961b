use Rattle.cl_meaning.proofs.Operating.{at_types}
use Rattle.cl_meaning.proofs.operate.operate.Goals as goal

pub returns-in-Sure : goal.returns-in-Sure
returns-in-Sure c = rw c.in-Sure.is (c.is_sure.ensures c.args.layouts.now)

pub returns-in-Part : goal.returns-in-Part
returns-in-Part c = at_types c.args.op _ c.args.stack.now c.part.new.stack c.part.result c.args.layouts.now c.in-Part.is c.part.ensures

pub returns-in-Offset : goal.returns-in-Offset
returns-in-Offset c = at_types c.args.op _ c.args.stack.now c.offset.new.stack c.offset.result c.args.layouts.now c.in-Offset.is c.offset.ensures

pub returns-in-Compare : goal.returns-in-Compare
returns-in-Compare c = at_types c.args.op _ c.args.stack.now c.compare.new.stack c.compare.result c.args.layouts.now c.in-Compare.is c.compare.ensures

pub returns-in-Elements : goal.returns-in-Elements
returns-in-Elements c = at_types c.args.op _ c.args.stack.now c.elements.new.stack c.elements.result c.args.layouts.now c.in-Elements.is c.elements.ensures

pub returns-in-Element : goal.returns-in-Element
returns-in-Element c = at_types c.args.op _ c.args.stack.now c.element.new.stack c.element.result c.args.layouts.now c.in-Element.is c.element.ensures

pub returns-in_ok-drop_second-in-DropSecond : goal.returns-in_ok-drop_second-in-DropSecond
returns-in_ok-drop_second-in-DropSecond c = rw c.in-DropSecond.is (c.in_ok-drop_second-in-DropSecond.ensures c.args.layouts.now)

pub returns-in_ok-swap-in-Swap : goal.returns-in_ok-swap-in-Swap
returns-in_ok-swap-in-Swap c = rw c.in-Swap.is (c.in_ok-swap-in-Swap.ensures c.args.layouts.now)

pub returns-in_ok-keep-in-Keep : goal.returns-in_ok-keep-in-Keep
returns-in_ok-keep-in-Keep c = rw c.in-Keep.is (c.in_ok-keep-in-Keep.ensures c.args.layouts.now)

pub returns-in_ok-follow-in-Follow : goal.returns-in_ok-follow-in-Follow
returns-in_ok-follow-in-Follow c = rw c.in-Follow.is (c.in_ok-follow-in-Follow.ensures c.args.layouts.now)

pub returns-in_ok-address-in-Address : goal.returns-in_ok-address-in-Address
returns-in_ok-address-in-Address c = rw c.in-Address.is (c.in_ok-address-in-Address.ensures c.args.layouts.now)

pub returns-in_ok-select-in-Select : goal.returns-in_ok-select-in-Select
returns-in_ok-select-in-Select c = rw c.in-Select.is (c.in_ok-select-in-Select.ensures c.args.layouts.now)

pub returns-in_ok-convert-in-Convert : goal.returns-in_ok-convert-in-Convert
returns-in_ok-convert-in-Convert c = rw c.in-Convert.is (c.in_ok-convert-in-Convert.ensures c.args.layouts.now)

pub returns-in_ok-unary-in-Unary : goal.returns-in_ok-unary-in-Unary
returns-in_ok-unary-in-Unary c = rw c.in-Unary.is (c.in_ok-unary-in-Unary.ensures c.args.layouts.now)

pub returns-in_ok-slice-in-Slice : goal.returns-in_ok-slice-in-Slice
returns-in_ok-slice-in-Slice c = rw c.in-Slice.is (c.in_ok-slice-in-Slice.ensures c.args.layouts.now)

pub returns-in_ok-components-in-Components : goal.returns-in_ok-components-in-Components
returns-in_ok-components-in-Components c = rw c.in-Components.is (c.in_ok-components-in-Components.ensures c.args.layouts.now)

pub returns-in_ok-vector-in-Vector : goal.returns-in_ok-vector-in-Vector
returns-in_ok-vector-in-Vector c = rw c.in-Vector.is (c.in_ok-vector-in-Vector.ensures c.args.layouts.now)

pub returns-in_ok-apply-in-Apply : goal.returns-in_ok-apply-in-Apply
returns-in_ok-apply-in-Apply c = rw c.in-Apply.is (c.in_ok-apply-in-Apply.ensures c.args.layouts.now)
