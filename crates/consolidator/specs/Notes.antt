-- What is noted of a mover's work: what its cache seat lent and took back, the tally of moves, and what its client was asked (this
-- project's own).
use Rattle.std.specs.Prelude.{ℕ, ◌+◌, ◌%◌, ◌^◌, List, [], ◌∷◌, Option, Some}
use Rattle.kmem_buf.specs.Answers.{Flags, flagged, brought_by, fetched_by}
use Rattle.kmem_buf.specs.declared.client.Verdict.{Verdict}
use Rattle.kmem_buf.specs.declared.client.Verdict.TheVariants as verdict
use Rattle.kmem_model.specs.CacheCounts.{handed_by}
use Rattle.kmem_model.specs.declared.cache_entry.Said.{Said}
use Rattle.kmem_model.specs.declared.cache_entry.Said.TheVariants.{Yes, No, Later, DontNeed, DontKnow}
use Rattle.kmem_model.specs.declared.cache_entry.CacheEntry.{CacheEntry}
use Rattle.kmem_model.specs.declared.cache_entry.CacheEntry.TheVariants.{Begin, Gone, End}
use Rattle.object_cache.specs.declared.tally.Tally.{Tally}
use Rattle.kmem_cache.specs.Seats.{CacheSeatState}
use Rattle.consolidator.specs.Tallies.{tally_begun, tally_gone, tally_answered}

-- the buffers that the seat lent and took back, the tally, and of the client: which answers it ever gave, the last one, how many, and the
-- buffers that it put among its objects and took from among them
pub record Notes : Type 0 where
  pub lent : ℕ
  pub returned : ℕ
  pub tally : Tally
  pub flags : Flags
  pub last : Option Verdict
  pub answered : ℕ
  pub brought : ℕ
  pub fetched : ℕ

module _ {C : Type 0} (flags : C → Flags) (last : C → Option Verdict) (answered brought fetched : C → ℕ) where
  -- the notes of a seat, a tally and a client of this kind
  abbrev pub notes_by : CacheSeatState → Tally → C → Notes
  notes_by seat tally client =
      record {
        lent = seat.lent;
        returned = seat.returned;
        tally = tally;
        flags = flags client;
        last = last client;
        answered = answered client;
        brought = brought client;
        fetched = fetched client;
      }

-- the answer that an entry names
abbrev pub verdict_in : Said → Verdict
verdict_in Yes = verdict.Yes
verdict_in No = verdict.No
verdict_in Later = verdict.Later
verdict_in DontNeed = verdict.DontNeed
verdict_in DontKnow = verdict.DontKnow

-- after one more entry: a move that begins is counted and lends its new buffer; one that ends unasked gives it back; and one that ends by
-- an answer gives back what the client handed back
abbrev pub noted : CacheEntry → Notes → Notes
noted (Begin j from to) n = record n { lent = n.lent + 1; tally = tally_begun n.tally }
noted (Gone j) n = record n { returned = n.returned + 1; tally = tally_gone n.tally }
noted (End j said) n =
    record {
      lent = n.lent;
      returned = n.returned + handed_by said;
      tally = tally_answered said n.tally;
      flags = flagged (verdict_in said) n.flags;
      last = Some (verdict_in said);
      answered = (n.answered + 1) % 2 ^ 64;
      brought = n.brought + brought_by (verdict_in said);
      fetched = n.fetched + fetched_by (verdict_in said);
    }
noted _ n = n

-- after these entries
abbrev pub noted_all : List CacheEntry → Notes → Notes
noted_all [] n = n
noted_all (e ∷ es) n = noted_all es (noted e n)
