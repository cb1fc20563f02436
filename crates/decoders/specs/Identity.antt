-- Document 01, "Identity": the bytes that are read, and then the checks in the table's order. Assumes nothing.
use Rattle.std.specs.Prelude.{ℕ, ◌+◌, ◌/◌, ◌%◌, List, [], ◌∷◌, eqb, Ok, Err}
use Rattle.reading.specs.View.{View, view}
use Rattle.reading.specs.Refusal.{Answer, onward}
use Rattle.reading.specs.declared.Refusal.{Refusal}
use Rattle.reading.specs.Ranges.{missing_at, whole}
use Rattle.decoders.specs.Codes.{size_of, revision_of, device_of, module_of, density_of, package_of, io_width_of, bank_groups_of, banks_of, bus_width_of, channels_of}
use Rattle.decoders.specs.declared.identity.IdentityBytes.{IdentityBytes}
use Rattle.decoders.specs.declared.identity.Base.{Base}
use Rattle.decoders.specs.declared.identity.Sdram.{Sdram}
use Rattle.decoders.specs.declared.identity.Organization.{Organization}
use Rattle.decoders.specs.declared.identity.IdentityAndBase.{IdentityAndBase}

-- document 02, 2026-01: bytes 0 to 7, 234 and 235 are read; each range by its start and its number of bytes
abbrev pub identity_ranges : List (ℕ × ℕ)
identity_ranges = (0, 8) ∷ (234, 2) ∷ []

abbrev pub bytes_at : View → IdentityBytes
bytes_at v =
    record {
      spd_size = v.byte 0;
      spd_revision = v.byte 1;
      device_type = v.byte 2;
      module_type = v.byte 3;
      first_density_package = v.byte 4;
      first_addressing = v.byte 5;
      first_io_width = v.byte 6;
      first_bank_groups = v.byte 7;
      module_organization = v.byte 234;
      memory_channel_bus_width = v.byte 235;
    }

-- the chain of checks in three parts, for whatever is made of a refusal (stop) and of the part's record (good)
abbrev pub base_with : {X : Type 0} → (Refusal → X) → (Base → X) → IdentityBytes → X
base_with stop good b =
    onward stop (size_of (b.spd_size / 16 % 8)) (λ size.
    onward stop (device_of b.device_type) (λ device.
    onward stop (module_of (b.module_type % 16)) (λ m.
    good (record {
      spd_bytes_total = size;
      spd_revision = revision_of b.spd_revision;
      device_type = device;
      module_type = m;
      hybrid = eqb (b.module_type / 128 % 2) 1;
    }))))

abbrev pub sdram_with : {X : Type 0} → (Refusal → X) → (Sdram → X) → IdentityBytes → X
sdram_with stop good b =
    onward stop (density_of (b.first_density_package % 32)) (λ density.
    onward stop (package_of (b.first_density_package / 32 % 8)) (λ p.
    onward stop (io_width_of (b.first_io_width / 32 % 8)) (λ width.
    onward stop (bank_groups_of (b.first_bank_groups / 32 % 8)) (λ groups.
    onward stop (banks_of (b.first_bank_groups % 8)) (λ banks.
    good (record {
      density_per_die = density;
      package_type = p.package_type;
      die_count = p.die_count;
      row_address_bits = 16 + b.first_addressing % 32;
      column_address_bits = 10 + b.first_addressing / 32 % 8;
      io_width = width;
      bank_groups = groups;
      banks_per_bank_group = banks;
    }))))))

abbrev pub organization_with : {X : Type 0} → (Refusal → X) → (Organization → X) → IdentityBytes → X
organization_with stop good b =
    onward stop (bus_width_of (b.memory_channel_bus_width % 8)) (λ bus.
    onward stop (channels_of (b.memory_channel_bus_width / 32 % 8)) (λ channels.
    good (record {
      package_ranks_per_channel = 1 + b.module_organization / 8 % 8;
      rank_mix_asymmetric = eqb (b.module_organization / 64 % 2) 1;
      channels_per_dimm = channels;
      primary_bus_width_bits = bus;
    })))

-- the whole of three parts
abbrev pub whole_of : Base → Sdram → Organization → IdentityAndBase
whole_of b d o =
    record {
      spd_bytes_total = b.spd_bytes_total;
      spd_revision = b.spd_revision;
      device_type = b.device_type;
      module_type = b.module_type;
      hybrid = b.hybrid;
      density_per_die = d.density_per_die;
      package_type = d.package_type;
      die_count = d.die_count;
      row_address_bits = d.row_address_bits;
      column_address_bits = d.column_address_bits;
      io_width = d.io_width;
      bank_groups = d.bank_groups;
      banks_per_bank_group = d.banks_per_bank_group;
      package_ranks_per_channel = o.package_ranks_per_channel;
      rank_mix_asymmetric = o.rank_mix_asymmetric;
      channels_per_dimm = o.channels_per_dimm;
      primary_bus_width_bits = o.primary_bus_width_bits;
    }

-- refused 1 where one of the bytes is missing, and then the parts in their order
abbrev pub identity_with : {X : Type 0} → (Refusal → X) → (IdentityAndBase → X) → View → X
identity_with stop good v =
    whole stop (missing_at identity_ranges v) (
    base_with stop (λ b.
    sdram_with stop (λ d.
    organization_with stop (λ o.
    good (whole_of b d o)) (bytes_at v)) (bytes_at v)) (bytes_at v))

abbrev pub identity_at : View → Answer IdentityAndBase
identity_at v = identity_with Err Ok v

unfoldable pub identity_of : List ℕ → Answer IdentityAndBase
identity_of s = identity_at (view s)

-- the bytes alone, and each part alone
unfoldable pub identity_bytes_of : List ℕ → Answer IdentityBytes
identity_bytes_of s = whole Err (missing_at identity_ranges (view s)) (Ok (bytes_at (view s)))

unfoldable pub base_of : IdentityBytes → Answer Base
base_of b = base_with Err Ok b

unfoldable pub sdram_of : IdentityBytes → Answer Sdram
sdram_of b = sdram_with Err Ok b

unfoldable pub organization_of : IdentityBytes → Answer Organization
organization_of b = organization_with Err Ok b
