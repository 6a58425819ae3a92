-- What a scan leaves of the last one.
use Rattle.std.specs.Prelude.{ℕ, ◌+◌, ◌-◌, ◌&&◌, ◌||◌, Bool, false, not, min, max, if◌then◌else◌}
use Rattle.object_cache.specs.Modes.{mode_next}
use Rattle.object_cache.specs.declared.scan.Scan.{Scan}

-- the numerator grows where the last scan was mild and no move was begun since, and falls by a scan that may ask nothing
abbrev pub numerator_next : Scan → Bool → ℕ
numerator_next scan may_ask =
    let numerator = if scan.found_fragmented && not scan.begun then min 8 (scan.numerator + 1) else scan.numerator in
    if may_ask then numerator else max 1 (numerator - 1)

-- after such a scan was started
abbrev pub scan_next : Scan → Bool → Bool → Scan
scan_next scan desperate mild =
    record {
      mode = mode_next desperate mild;
      numerator = numerator_next scan (desperate || mild);
      found_fragmented = mild;
      begun = false;
    }
