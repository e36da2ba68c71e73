-- The Generic Timer Description Table (ACPI 6.5, 5.2.25).
use Rattle.std.specs.Prelude.{◌≡◌, ℕ, ◌+◌, List, [], ◌∷◌, ◌++◌, length, codes}
use Rattle.acpi_base.specs.Fields.{NamedField, byte, word, dword, qword, hex, preset, flags, reserved, fields_joined}
use Rattle.acpi_base.specs.Look.{Part, flag, choice, means}
use Rattle.acpi_base.specs.FurtherWalk.{AreStructuresOf}
use Rattle.acpi_base.specs.Table.{IsTrueTable}
use Rattle.acpi_base.specs.declared.oem.Oem.{Oem}
use Rattle.acpi_core.specs.Entries.{no_entries, with_entry}
use Rattle.acpi_core.specs.Listing.{Listing, length_limit}
use Rattle.acpi_fixed.specs.Sealed.{padded}
use Rattle.acpi_arm.specs.declared.gtdt.EarlierGTDT.{EarlierGTDT}
use Rattle.acpi_arm.specs.declared.gtdt.Timer.{Timer}
use Rattle.acpi_arm.specs.declared.gtdt.Timers.{Timers}
use Rattle.acpi_arm.specs.declared.gtdt.Interrupt.{Interrupt}
use Rattle.acpi_arm.specs.declared.gtdt.GtBlock.{GtBlock}
use Rattle.acpi_arm.specs.declared.gtdt.GtBlockTimer.{GtBlockTimer}
use Rattle.acpi_arm.specs.declared.gtdt.GenericWatchdog.{GenericWatchdog}

-- the address of a register block that a machine doesn't have
abbrev pub no_address : ℕ
no_address = 0xffffffffffffffff

-- ---- the timers of a processor (5.2.25, tables 5.117 and 5.118)

abbrev pub timer : ℕ → Timer
timer gsiv = record { gsiv = gsiv; flags = 0 }

abbrev pub timers : Timer → Timer → Timers
timers non_secure_el1 virtual_el1 = record {
  counter_control_base = no_address;
  secure_el1 = timer 0;
  non_secure_el1 = non_secure_el1;
  virtual_el1 = virtual_el1;
  el2 = timer 0;
  counter_read_base = no_address;
  virtual_el2 = timer 0;
}

-- timer flags: Interrupt Mode in bit 0, Interrupt Polarity in bit 1
abbrev pub timer_bits : List Part
timer_bits =
    choice 0x1 (means 0x0 "Level Triggered" ∷ means 0x1 "Edge Triggered" ∷ [])
    ∷ choice 0x2 (means 0x0 "Active High" ∷ means 0x2 "Active Low" ∷ [])
    ∷ flag 0x4 "Always-on"
    ∷ []

-- the fields between the header and the number of platform timers
abbrev pub timers_fields : Timers → List NamedField
timers_fields t =
    hex qword "CntControlBase Physical Address" t.counter_control_base  -- 36
    ∷ reserved 4  -- 44
    ∷ dword "Secure EL1 Timer GSIV" t.secure_el1.gsiv  -- 48
    ∷ flags timer_bits dword "Secure EL1 Timer Flags" t.secure_el1.flags  -- 52
    ∷ dword "Non-Secure EL1 Timer GSIV" t.non_secure_el1.gsiv  -- 56
    ∷ flags timer_bits dword "Non-Secure EL1 Timer Flags" t.non_secure_el1.flags  -- 60
    ∷ dword "Virtual EL1 Timer GSIV" t.virtual_el1.gsiv  -- 64
    ∷ flags timer_bits dword "Virtual EL1 Timer Flags" t.virtual_el1.flags  -- 68
    ∷ dword "EL2 Timer GSIV" t.el2.gsiv  -- 72
    ∷ flags timer_bits dword "EL2 Timer Flags" t.el2.flags  -- 76
    ∷ hex qword "CntReadBase Physical Address" t.counter_read_base  -- 80
    ∷ []

-- the fields after that number
abbrev pub last_fields : Timers → List NamedField
last_fields t =
    preset dword "Platform Timer Offset" 104  -- 92
    ∷ dword "Virtual EL2 Timer GSIV" t.virtual_el2.gsiv  -- 96
    ∷ flags timer_bits dword "Virtual EL2 Timer Flags" t.virtual_el2.flags  -- 100
    ∷ []

-- a table without platform timers
abbrev pub gtdt : Oem → Timers → Listing
gtdt oem t = record {
  signature = codes "GTDT";
  revision = 3;
  oem = oem;
  before = fields_joined (timers_fields t);
  count_width = 4;  -- 88: Platform Timer Count
  after = fields_joined (last_fields t);
  limit = length_limit;
  structures = [];
}

-- ---- the table of revision 2 (ACPI 6.2, 5.2.24)

abbrev pub earlier_gtdt : Oem → Timers → EarlierGTDT
earlier_gtdt oem t = record { oem = oem; timers = t }

-- the timers, and after them 0 as Platform Timer Count (88) and as Platform Timer Offset (92)
abbrev pub earlier_gtdt_bytes : EarlierGTDT → List ℕ
earlier_gtdt_bytes t = padded 96 (codes "GTDT") 2 t.oem (fields_joined (timers_fields t.timers))

-- Each table of this maker is correct, has 96 bytes, and no platform timers.
abbrev pub EarlierGtdtsAreTrue : Oem → Type 0
EarlierGtdtsAreTrue oem =
    (t : EarlierGTDT) → t.oem ≡ oem
    → IsTrueTable (earlier_gtdt_bytes t) × (length (earlier_gtdt_bytes t) ≡ 96) × AreStructuresOf (earlier_gtdt_bytes t) []

-- ---- GT Block Structure (5.2.25.1)

abbrev pub interrupt : ℕ → Interrupt
interrupt gsiv = record { gsiv = gsiv; flags = 0 }

abbrev pub gt_block_timer : ℕ → ℕ → GtBlockTimer
gt_block_timer frame base = record {
  frame = frame;
  base = base;
  el0_base = no_address;
  physical = interrupt 0;
  virtual_timer = interrupt 0;
  common_flags = 0;
}

-- GTx timer flags: Interrupt Mode in bit 0, Interrupt Polarity in bit 1
abbrev pub block_timer_bits : List Part
block_timer_bits =
    choice 0x1 (means 0x0 "Level Triggered" ∷ means 0x1 "Edge Triggered" ∷ [])
    ∷ choice 0x2 (means 0x0 "Active High" ∷ means 0x2 "Active Low" ∷ [])
    ∷ []

-- GTx Common Flags
abbrev pub common_bits : List Part
common_bits =
    flag 0x1 "Secure"
    ∷ flag 0x2 "Always-on"
    ∷ []

abbrev pub gt_block_timer_fields : GtBlockTimer → List NamedField
gt_block_timer_fields t =
    byte "GT Frame Number" t.frame  -- 0
    ∷ reserved 3  -- 1
    ∷ hex qword "GTx Physical Address (CntBaseX)" t.base  -- 4
    ∷ hex qword "GTx Physical Address (CntEL0BaseX)" t.el0_base  -- 12
    ∷ dword "GTx Physical Timer GSIV" t.physical.gsiv  -- 20
    ∷ flags block_timer_bits dword "GTx Physical Timer Flags" t.physical.flags  -- 24
    ∷ dword "GTx Virtual Timer GSIV" t.virtual_timer.gsiv  -- 28
    ∷ flags block_timer_bits dword "GTx Virtual Timer Flags" t.virtual_timer.flags  -- 32
    ∷ flags common_bits dword "GTx Common Flags" t.common_flags  -- 36
    ∷ []

abbrev pub gt_block_timer_bytes : GtBlockTimer → List ℕ
gt_block_timer_bytes t = fields_joined (gt_block_timer_fields t)

-- the block with one more timer at the end
abbrev pub with_timer : GtBlock → GtBlockTimer → GtBlock
with_timer b t = record { address = b.address; timers = with_entry b.timers (gt_block_timer_bytes t) }

abbrev pub gt_block : ℕ → GtBlockTimer → GtBlock
gt_block address t = with_timer (record { address = address; timers = no_entries }) t

abbrev pub gt_block_head_fields : GtBlock → List NamedField
gt_block_head_fields b =
    preset byte "Type" 0  -- 0
    ∷ word "Length" (20 + length b.timers.bytes)  -- 1
    ∷ reserved 1  -- 3
    ∷ hex qword "GT Block Physical Address (CntCtlBase)" b.address  -- 4
    ∷ dword "GT Block Timer Count" b.timers.count  -- 12
    ∷ preset dword "GT Block Timer Offset" 20  -- 16
    ∷ []

abbrev pub gt_block_head : GtBlock → List ℕ
gt_block_head b = fields_joined (gt_block_head_fields b)

abbrev pub gt_block_bytes : GtBlock → List ℕ
gt_block_bytes b = gt_block_head b ++ b.timers.bytes  -- 20: GT Block Timer Structures

-- ---- Arm Generic Watchdog Structure (5.2.25.2)

abbrev pub generic_watchdog : ℕ → ℕ → ℕ → GenericWatchdog
generic_watchdog refresh control gsiv = record {
  refresh_frame = refresh;
  control_frame = control;
  gsiv = gsiv;
  flags = 0;
}

-- Watchdog Timer Flags: Interrupt Mode in bit 0, Interrupt Polarity in bit 1
abbrev pub watchdog_bits : List Part
watchdog_bits =
    choice 0x1 (means 0x0 "Level Triggered" ∷ means 0x1 "Edge Triggered" ∷ [])
    ∷ choice 0x2 (means 0x0 "Active High" ∷ means 0x2 "Active Low" ∷ [])
    ∷ flag 0x4 "Secure"
    ∷ []

abbrev pub generic_watchdog_fields : GenericWatchdog → List NamedField
generic_watchdog_fields w =
    preset byte "Type" 1  -- 0
    ∷ preset word "Length" 28  -- 1
    ∷ reserved 1  -- 3
    ∷ hex qword "RefreshFrame Physical Address" w.refresh_frame  -- 4
    ∷ hex qword "WatchdogControlFrame Physical Address" w.control_frame  -- 12
    ∷ dword "Watchdog Timer GSIV" w.gsiv  -- 20
    ∷ flags watchdog_bits dword "Watchdog Timer Flags" w.flags  -- 24
    ∷ []

abbrev pub generic_watchdog_bytes : GenericWatchdog → List ℕ
generic_watchdog_bytes w = fields_joined (generic_watchdog_fields w)
