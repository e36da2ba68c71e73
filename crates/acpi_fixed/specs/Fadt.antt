-- The Fixed ACPI Description Table (ACPI 6.5, 5.2.9).
use Rattle.std.specs.Prelude.{ℕ, List, [], ◌∷◌, ◌++◌, codes, bit_or}
use Rattle.acpi_base.specs.Fields.{NamedField, byte, word, dword, qword, hex, flags}
use Rattle.acpi_base.specs.Fields.{one_of, text, hex_of, reserved, fields_joined}
use Rattle.acpi_base.specs.Look.{Part, flag, choice, part, means}
use Rattle.acpi_base.specs.Gas.{register, no_register}
use Rattle.acpi_base.specs.Bytes.{zeros}
use Rattle.acpi_base.specs.Table.{with_checksum}
use Rattle.acpi_fixed.specs.declared.fadt.Flags.{Flags}
use Rattle.acpi_fixed.specs.declared.fadt.Flags.TheVariants as features
use Rattle.acpi_fixed.specs.declared.fadt.PmProfile.{PmProfile}
use Rattle.acpi_fixed.specs.declared.fadt.PmProfile.TheVariants as profiles
use Rattle.acpi_fixed.specs.declared.fadt.FADTBuilder.{FADTBuilder}

-- Fixed feature flags (table 5.10): bits 0 to 21, and the values of one field of two bits at 22
abbrev pub flag_number : Flags → ℕ
flag_number features.Wbinvd = 0x00000001
flag_number features.WbinvdFlush = 0x00000002
flag_number features.ProcC1 = 0x00000004
flag_number features.PLvl2Up = 0x00000008
flag_number features.PwrButton = 0x00000010
flag_number features.SlpButton = 0x00000020
flag_number features.FixRtc = 0x00000040
flag_number features.RtcS4 = 0x00000080
flag_number features.TmrValExt = 0x00000100
flag_number features.DckCap = 0x00000200
flag_number features.ResetRegSup = 0x00000400
flag_number features.SealedCase = 0x00000800
flag_number features.Headless = 0x00001000
flag_number features.CpuSwSlp = 0x00002000
flag_number features.PciExpWak = 0x00004000
flag_number features.UsePlatformClock = 0x00008000
flag_number features.S4RtcStsValid = 0x00010000
flag_number features.RemotePowerOnCapable = 0x00020000
flag_number features.ForceApicClusterModel = 0x00040000
flag_number features.ForceApicPhysicalDestinationMode = 0x00080000
flag_number features.HwReducedAcpi = 0x00100000
flag_number features.LowPowerS0IdleCapable = 0x00200000
flag_number features.PersistentCpuCachesNotReported = 0x00000000
flag_number features.PersistentCpuCachesNotPersistent = 0x00400000
flag_number features.PersistentCpuCachesArePersistent = 0x00800000

-- Preferred_PM_Profile
abbrev pub profile_number : PmProfile → ℕ
profile_number profiles.Unspecified = 0
profile_number profiles.Desktop = 1
profile_number profiles.Mobile = 2
profile_number profiles.Workstation = 3
profile_number profiles.EnterpriseServer = 4
profile_number profiles.SohoServer = 5
profile_number profiles.AppliancePc = 6
profile_number profiles.PerformanceServer = 7
profile_number profiles.Tablet = 8

-- ---- the layout

-- the standard header (5.2.6), whose fields are the caller's in this table
abbrev pub header_fields : FADTBuilder → List NamedField
header_fields f =
    text "Signature" 4 f.signature  -- 0
    ∷ dword "Length" f.length  -- 4
    ∷ byte "Revision" f.major_version  -- 8
    ∷ hex byte "Checksum" f.checksum  -- 9
    ∷ text "OEM ID" 6 f.oem_id  -- 10
    ∷ text "OEM Table ID" 8 f.oem_table_id  -- 16
    ∷ dword "OEM Revision" f.oem_revision  -- 24
    ∷ text "Creator ID" 4 f.creator_id  -- 28
    ∷ hex_of "Creator Revision" 4 f.creator_revision  -- 32
    ∷ []

-- the words of Preferred_PM_Profile
abbrev pub profile_words : List (ℕ × List ℕ)
profile_words =
    means 0 "Unspecified"
    ∷ means 1 "Desktop"
    ∷ means 2 "Mobile"
    ∷ means 3 "Workstation"
    ∷ means 4 "Enterprise Server"
    ∷ means 5 "SOHO Server"
    ∷ means 6 "Appliance PC"
    ∷ means 7 "Performance Server"
    ∷ means 8 "Tablet"
    ∷ []

-- IA-PC boot architecture flags (5.2.9.3)
abbrev pub iapc_boot_arch_bits : List Part
iapc_boot_arch_bits =
    flag 0x01 "LEGACY_DEVICES"
    ∷ flag 0x02 "8042"
    ∷ flag 0x04 "VGA Not Present"
    ∷ flag 0x08 "MSI Not Supported"
    ∷ flag 0x10 "PCIe ASPM Controls"
    ∷ flag 0x20 "CMOS RTC Not Present"
    ∷ []

-- fixed feature flags (table 5.10)
abbrev pub feature_bits : List Part
feature_bits =
    flag 0x000001 "WBINVD"
    ∷ flag 0x000002 "WBINVD_FLUSH"
    ∷ flag 0x000004 "PROC_C1"
    ∷ flag 0x000008 "P_LVL2_UP"
    ∷ flag 0x000010 "PWR_BUTTON"
    ∷ flag 0x000020 "SLP_BUTTON"
    ∷ flag 0x000040 "FIX_RTC"
    ∷ flag 0x000080 "RTC_S4"
    ∷ flag 0x000100 "TMR_VAL_EXT"
    ∷ flag 0x000200 "DCK_CAP"
    ∷ flag 0x000400 "RESET_REG_SUP"
    ∷ flag 0x000800 "SEALED_CASE"
    ∷ flag 0x001000 "HEADLESS"
    ∷ flag 0x002000 "CPU_SW_SLP"
    ∷ flag 0x004000 "PCI_EXP_WAK"
    ∷ flag 0x008000 "USE_PLATFORM_CLOCK"
    ∷ flag 0x010000 "S4_RTC_STS_VALID"
    ∷ flag 0x020000 "REMOTE_POWER_ON_CAPABLE"
    ∷ flag 0x040000 "FORCE_APIC_CLUSTER_MODEL"
    ∷ flag 0x080000 "FORCE_APIC_PHYSICAL_DESTINATION_MODE"
    ∷ flag 0x100000 "HW_REDUCED_ACPI"
    ∷ flag 0x200000 "LOW_POWER_S0_IDLE_CAPABLE"
    ∷ choice 0xc00000 (
    means 0x000000 "PERSISTENT_CPU_CACHES Not Reported"
    ∷ means 0x400000 "PERSISTENT_CPU_CACHES Not Persistent"
    ∷ means 0x800000 "PERSISTENT_CPU_CACHES Persistent"
    ∷ [])
    ∷ []

-- the fields before those with 64-bit addresses
abbrev pub legacy_fields : FADTBuilder → List NamedField
legacy_fields f =
    hex dword "FIRMWARE_CTRL" f.firmware_ctrl  -- 36
    ∷ hex dword "DSDT" f.dsdt  -- 40
    ∷ reserved 1  -- 44
    ∷ one_of profile_words byte "Preferred_PM_Profile" f.preferred_pm_profile  -- 45
    ∷ word "SCI_INT" f.sci_int  -- 46
    ∷ hex dword "SMI_CMD" f.smi_cmd  -- 48
    ∷ hex byte "ACPI_ENABLE" f.acpi_enable  -- 52
    ∷ hex byte "ACPI_DISABLE" f.acpi_disable  -- 53
    ∷ hex byte "S4BIOS_REQ" f.s4bios_req  -- 54
    ∷ hex byte "PSTATE_CNT" f.pstate_cnt  -- 55
    ∷ hex dword "PM1a_EVT_BLK" f.pm1a_evt_blk  -- 56
    ∷ hex dword "PM1b_EVT_BLK" f.pm1b_evt_blk  -- 60
    ∷ hex dword "PM1a_CNT_BLK" f.pm1a_cnt_blk  -- 64
    ∷ hex dword "PM1b_CNT_BLK" f.pm1b_cnt_blk  -- 68
    ∷ hex dword "PM2_CNT_BLK" f.pm2_cnt_blk  -- 72
    ∷ hex dword "PM_TMR_BLK" f.pm_tmr_blk  -- 76
    ∷ hex dword "GPE0_BLK" f.gpe0_blk  -- 80
    ∷ hex dword "GPE1_BLK" f.gpe1_blk  -- 84
    ∷ byte "PM1_EVT_LEN" f.pm1_evt_len  -- 88
    ∷ byte "PM1_CNT_LEN" f.pm1_cnt_len  -- 89
    ∷ byte "PM2_CNT_LEN" f.pm2_cnt_len  -- 90
    ∷ byte "PM_TMR_LEN" f.pm_tmr_len  -- 91
    ∷ byte "GPE0_BLK_LEN" f.gpe0_blk_len  -- 92
    ∷ byte "GPE1_BLK_LEN" f.gpe1_blk_len  -- 93
    ∷ byte "GPE1_BASE" f.gpe1_base  -- 94
    ∷ hex byte "CST_CNT" f.cst_cnt  -- 95
    ∷ word "P_LVL2_LAT" f.p_lvl2_lat  -- 96
    ∷ word "P_LVL3_LAT" f.p_lvl3_lat  -- 98
    ∷ word "FLUSH_SIZE" f.flush_size  -- 100
    ∷ word "FLUSH_STRIDE" f.flush_stride  -- 102
    ∷ byte "DUTY_OFFSET" f.duty_offset  -- 104
    ∷ byte "DUTY_WIDTH" f.duty_width  -- 105
    ∷ hex byte "DAY_ALRM" f.day_alrm  -- 106
    ∷ hex byte "MON_ALRM" f.mon_alrm  -- 107
    ∷ hex byte "CENTURY" f.century  -- 108
    ∷ flags iapc_boot_arch_bits word "IAPC_BOOT_ARCH" f.iapc_boot_arch  -- 109
    ∷ reserved 1  -- 111
    ∷ flags feature_bits dword "Flags" f.flags  -- 112
    ∷ []

-- Arm boot architecture flags (5.2.9.4)
abbrev pub arm_boot_arch_bits : List Part
arm_boot_arch_bits =
    flag 0x1 "PSCI_COMPLIANT"
    ∷ flag 0x2 "PSCI_USE_HVC"
    ∷ []

-- FADT Minor Version: the version in bits 3:0, the errata in bits 7:4
abbrev pub minor_version_bits : List Part
minor_version_bits =
    part 0x0f 0x01 "Minor Version"
    ∷ part 0xf0 0x10 "Errata"
    ∷ []

abbrev pub extended_fields : FADTBuilder → List NamedField
extended_fields f =
    register "RESET_REG" f.reset_reg  -- 116
    ∷ hex byte "RESET_VALUE" f.reset_value  -- 128
    ∷ flags arm_boot_arch_bits word "ARM_BOOT_ARCH" f.arm_boot_arch  -- 129
    ∷ flags minor_version_bits byte "FADT Minor Version" f.fadt_minor_version  -- 131
    ∷ hex qword "X_FIRMWARE_CTRL" f.x_firmware_ctrl  -- 132
    ∷ hex qword "X_DSDT" f.x_dsdt  -- 140
    ∷ register "X_PM1a_EVT_BLK" f.x_pm1a_evt_blk  -- 148
    ∷ register "X_PM1b_EVT_BLK" f.x_pm1b_evt_blk  -- 160
    ∷ register "X_PM1a_CNT_BLK" f.x_pm1a_cnt_blk  -- 172
    ∷ register "X_PM1b_CNT_BLK" f.x_pm1b_cnt_blk  -- 184
    ∷ register "X_PM2_CNT_BLK" f.x_pm2_cnt_blk  -- 196
    ∷ register "X_PM_TMR_BLK" f.x_pm_tmr_blk  -- 208
    ∷ register "X_GPE0_BLK" f.x_gpe0_blk  -- 220
    ∷ register "X_GPE1_BLK" f.x_gpe1_blk  -- 232
    ∷ register "SLEEP_CONTROL_REG" f.sleep_control_reg  -- 244
    ∷ register "SLEEP_STATUS_REG" f.sleep_status_reg  -- 256
    ∷ hex qword "Hypervisor Vendor Identity" f.hypervisor_vendor_identity  -- 268
    ∷ []

-- the fields after the header
abbrev pub fadt_fields : FADTBuilder → List NamedField
fadt_fields f = legacy_fields f ++ extended_fields f

-- the bytes with the caller's checksum
abbrev pub builder_bytes : FADTBuilder → List ℕ
builder_bytes f = fields_joined (header_fields f) ++ fields_joined (fadt_fields f)

-- the bytes with a new checksum
abbrev pub fadt_bytes : FADTBuilder → List ℕ
fadt_bytes f = with_checksum (builder_bytes f)

-- ---- new builders

abbrev pub no_fields : FADTBuilder
no_fields = record {
  signature = zeros 4;
  length = 0;
  major_version = 0;
  checksum = 0;
  oem_id = zeros 6;
  oem_table_id = zeros 8;
  oem_revision = 0;
  creator_id = zeros 4;
  creator_revision = zeros 4;
  firmware_ctrl = 0;
  dsdt = 0;
  preferred_pm_profile = 0;
  sci_int = 0;
  smi_cmd = 0;
  acpi_enable = 0;
  acpi_disable = 0;
  s4bios_req = 0;
  pstate_cnt = 0;
  pm1a_evt_blk = 0;
  pm1b_evt_blk = 0;
  pm1a_cnt_blk = 0;
  pm1b_cnt_blk = 0;
  pm2_cnt_blk = 0;
  pm_tmr_blk = 0;
  gpe0_blk = 0;
  gpe1_blk = 0;
  pm1_evt_len = 0;
  pm1_cnt_len = 0;
  pm2_cnt_len = 0;
  pm_tmr_len = 0;
  gpe0_blk_len = 0;
  gpe1_blk_len = 0;
  gpe1_base = 0;
  cst_cnt = 0;
  p_lvl2_lat = 0;
  p_lvl3_lat = 0;
  flush_size = 0;
  flush_stride = 0;
  duty_offset = 0;
  duty_width = 0;
  day_alrm = 0;
  mon_alrm = 0;
  century = 0;
  iapc_boot_arch = 0;
  flags = 0;
  reset_reg = no_register;
  reset_value = 0;
  arm_boot_arch = 0;
  fadt_minor_version = 0;
  x_firmware_ctrl = 0;
  x_dsdt = 0;
  x_pm1a_evt_blk = no_register;
  x_pm1b_evt_blk = no_register;
  x_pm1a_cnt_blk = no_register;
  x_pm1b_cnt_blk = no_register;
  x_pm2_cnt_blk = no_register;
  x_pm_tmr_blk = no_register;
  x_gpe0_blk = no_register;
  x_gpe1_blk = no_register;
  sleep_control_reg = no_register;
  sleep_status_reg = no_register;
  hypervisor_vendor_identity = 0;
}

abbrev pub fadt_at_first : List ℕ → List ℕ → ℕ → FADTBuilder
fadt_at_first oem_id oem_table_id oem_revision = record no_fields {
  signature = codes "FACP";
  length = 276;
  major_version = 6;
  oem_id = oem_id;
  oem_table_id = oem_table_id;
  oem_revision = oem_revision;
  creator_id = codes "RVAT";
  creator_revision = 0 ∷ 0 ∷ 0 ∷ 1 ∷ [];
  fadt_minor_version = 5;
}

-- ---- what setters change

-- the addresses of a table: that of 32 bits, and that of 64 bits
abbrev pub with_dsdt : ℕ → ℕ → FADTBuilder → FADTBuilder
with_dsdt low high f = record f { dsdt = low; x_dsdt = high }

abbrev pub with_facs : ℕ → ℕ → FADTBuilder → FADTBuilder
with_facs low high f = record f { firmware_ctrl = low; x_firmware_ctrl = high }

-- the values for the command port that turn ACPI on and off
abbrev pub with_commands : ℕ → ℕ → FADTBuilder → FADTBuilder
with_commands enable disable f = record f { acpi_enable = enable; acpi_disable = disable }

-- the flag is joined by or to those that are set
abbrev pub with_flag : Flags → FADTBuilder → FADTBuilder
with_flag flag f = record f { flags = bit_or f.flags (flag_number flag) }

abbrev pub with_profile : PmProfile → FADTBuilder → FADTBuilder
with_profile profile f = record f { preferred_pm_profile = profile_number profile }

abbrev pub with_gpe_info : ℕ → ℕ → ℕ → ℕ → ℕ → FADTBuilder → FADTBuilder
with_gpe_info gpe0_blk gpe1_blk gpe0_blk_len gpe1_blk_len gpe1_base f = record f {
  gpe0_blk = gpe0_blk;
  gpe1_blk = gpe1_blk;
  gpe0_blk_len = gpe0_blk_len;
  gpe1_blk_len = gpe1_blk_len;
  gpe1_base = gpe1_base;
}
