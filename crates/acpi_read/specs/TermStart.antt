-- The heads of terms, without their place in memory.
use Rattle.std.specs.Prelude.{◌≡◌, ℕ, ◌+◌, ◌≤◌, length}
use Rattle.acpi_term.specs.Tree.{Head, call, def_scope, def_device, def_method, def_power_res, def_op_region}
use Rattle.acpi_term.specs.Tree.{def_name, def_var_package, def_if, def_while, def_else, op, def_leveled_method}
use Rattle.acpi_term.specs.Tree.{def_processor, def_thermal_zone, end}
use Rattle.acpi_term.specs.Tree.{def_fatal, match_test}
use Rattle.acpi_term.specs.Operator.{operands}
use Rattle.acpi_term.specs.View.{view}
use Rattle.acpi_term.specs.Reading.{Opened, follows, fills, packs, rooms, begins, banks}
use Rattle.acpi_read.specs.declared.terms.open.TermStart as code
use Rattle.acpi_read.specs.declared.terms.open.TermStart.TheVariants.{Leaf, Call, Operator, Region, Define, Fatal, Test}
use Rattle.acpi_read.specs.declared.terms.open.TermStart.TheVariants.{Block, FirstAndBlock, Package, Rooms, Buffer, Bank}
use Rattle.acpi_read.specs.declared.terms.open.Block as block
use Rattle.acpi_read.specs.declared.terms.open.Block.TheVariants as blocks
use Rattle.acpi_read.specs.declared.terms.open.FirstAndBlock as first_and_block
use Rattle.acpi_read.specs.declared.terms.open.FirstAndBlock.TheVariants as firsts

abbrev pub block_head : block.Block → Head
block_head (blocks.Scope w name) = def_scope name
block_head (blocks.Device w name) = def_device name
block_head (blocks.Method w name args serialized) = def_method name args serialized
block_head (blocks.PowerResource w name level order) = def_power_res name level order
block_head (blocks.Else w) = def_else
block_head (blocks.LeveledMethod w name args serialized level) = def_leveled_method name args serialized level
block_head (blocks.Processor w name id address size) = def_processor name id address size
block_head (blocks.ThermalZone w name) = def_thermal_zone name

abbrev pub block_width : block.Block → ℕ
block_width (blocks.Scope w name) = w
block_width (blocks.Device w name) = w
block_width (blocks.Method w name args serialized) = w
block_width (blocks.PowerResource w name level order) = w
block_width (blocks.Else w) = w
block_width (blocks.LeveledMethod w name args serialized level) = w
block_width (blocks.Processor w name id address size) = w
block_width (blocks.ThermalZone w name) = w

abbrev pub first_head : first_and_block.FirstAndBlock → Head
first_head (firsts.VarPackage w) = def_var_package
first_head (firsts.If w) = def_if
first_head (firsts.While w) = def_while

abbrev pub first_width : first_and_block.FirstAndBlock → ℕ
first_width (firsts.VarPackage w) = w
first_width (firsts.If w) = w
first_width (firsts.While w) = w

abbrev pub seen : code.TermStart → Opened
seen (Leaf t rest) = follows (view t).0 (view t).1 0 rest.now
seen (Call name n rest) = follows (call name) 0 n rest.now
seen (Operator o rest) = follows (op o) 0 (operands o) rest.now
seen (Region name space rest) = follows (def_op_region name space) 0 2 rest.now
seen (Define name rest) = follows (def_name name) 0 1 rest.now
seen (Fatal kind code rest) = follows (def_fatal kind code) 0 1 rest.now
seen (Test k rest) = follows (match_test k) 0 1 rest.now
seen (Block f inside after) = fills (block_head f) (block_width f) inside.now after.now
seen (FirstAndBlock f inside after) = fills (first_head f) (first_width f) inside.now after.now
seen (Package w n inside after) = packs w n inside.now after.now
seen (Rooms w n inside after) = rooms w n inside.now after.now
seen (Buffer w content after) = begins w content.now after.now
seen (Bank start content after) = banks start.width start.name start.bank content.now after.now

-- the bytes inside and after a head are a part of this many bytes
abbrev pub LiesWithin : ℕ → Opened → Type 0
LiesWithin n (follows h w count rest) = length rest ≤ n
LiesWithin n (fills h w inside after) = length inside + length after ≤ n
LiesWithin n (packs w count inside after) = length inside + length after ≤ n
LiesWithin n (rooms w count inside after) = length inside + length after ≤ n
LiesWithin n (begins w content after) = length content + length after ≤ n
LiesWithin n (banks w name bank content after) = length content + length after ≤ n

-- a leaf has no children
abbrev pub IsAlone : code.TermStart → Type 0
IsAlone (Leaf t rest) = (view t).2 ≡ end
IsAlone _ = Unit {0}
