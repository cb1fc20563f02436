-- Every line of the bench holds: by computation over the views that the images make, which are the views of their bytes. Assumes nothing.
use mathlib.Core.Path.{refl, subst⁻¹, fun_ext}
use Rattle.reading.specs.Ranges.{missing_at}
use Rattle.reading.proofs.Made.{made, view_made}
use Rattle.decoders.specs.Codes.{size_of, device_of, module_of, density_of, package_of, io_width_of, bank_groups_of, banks_of, bus_width_of, channels_of}
use Rattle.decoders.specs.Timing.{le16_at, cas_at}
use Rattle.rules.specs.Rules.{on_ladder}
use Rattle.rules.specs.Regions.{region_at}
use Rattle.rules.specs.Lint.{lint_at}
use Rattle.rules.specs.Bench.{holds, All, AllHold, bench}

next : {A B : Type 0} → A → B → A × B
next a b = (a, b)

-- a row for each line of document 01
computed : All (holds made) bench
unfolding bench missing_at size_of device_of module_of density_of package_of io_width_of bank_groups_of banks_of bus_width_of channels_of le16_at cas_at on_ladder region_at lint_at
computed =
    next refl (next refl (next refl
    (next refl (next refl (next refl (next refl
    (next refl (next refl
    (next refl (next refl
    (next refl (next refl (next refl (next refl
    (next refl (next refl (next refl (next refl
    (next refl (next refl
    (next refl (next refl (next refl tt)))))))))))))))))))))))

pub bench-holds : AllHold bench
bench-holds = subst⁻¹ (λ see. All (holds see) bench) (fun_ext view_made) computed
