-- The step of a record map keeps it valid.
use Rattle.std.proofs.Common.{◌≡◌, ℕ, ◌+◌, ◌*◌, ◌<◌, ◌≤◌, ◌==◌, Bool, true, false, cond, List, length, replicate, set, get_or, Option, Some, None, is_some, refl, arith}
use Rattle.std.proofs.lemmas.Bool.{cond_both, both_ways, eqb-false}
use Rattle.std.proofs.lemmas.List.{length-set}
use Rattle.kmem_text.specs.declared.command.Command.{Command}
use Rattle.kmem_text.specs.declared.command.Command.TheVariants.{Put, Get, Del, First, Next, Count, Link, Hold, Read, Write, Drop, Fix, Loose}
use Rattle.kmem_model.proofs.CacheLists.{get_or-replicate_none}
use Rattle.kmem_model.proofs.RecordsValid.{valid_changed, valid_new, valid_linked, valid_tagged, valid_unnamed, valid_untagged, none_lead}
use Rattle.kmem_model.specs.Records.{Record, RecordMap, no_records, tag_place, id_of, held_at, name_count, least_name, is_used, changed_at, with_name, with_tag, IsValid}
use Rattle.kmem_model.specs.RecordStep.{Step, put_step, del_step, at_step, get_step, link_step, hold_step, read_step, write_step, drop_step, fix_step, step, IsInRange, IsValidAs}

abbrev Keeps : RecordMap → Step → Type 0
Keeps m next = IsValidAs m next.map

same : (m : RecordMap) → IsValid m → IsValidAs m m
same m v = record { valid = v; names = refl; tags = refl }

changed : (m : RecordMap) (id : ℕ) (change : Record → Record) → IsValid m → IsValidAs m (changed_at m id change)
changed m id change v = record { valid = valid_changed m id change v; names = refl; tags = refl }

-- what is there, where a test says that it isn't
none_from : {X : Type 0} (x : Option X) → is_some x ≡ false → x ≡ None
none_from None e = refl
none_from (Some x) e = absurd (both_ways true e refl)

pub put_keeps : (m : RecordMap) (name : ℕ) (value : List ℕ) → name < length m.names → IsValid m → (id : Option ℕ) → id_of m name ≡ id → Keeps m (put_step m name value id)
put_keeps m name value below v None e = record { valid = valid_new m name value below e v; names = length-set m.names name (Some (length m.records)); tags = refl }
put_keeps m name value below v (Some id) e = changed m id _ v

get_keeps : (m : RecordMap) → IsValid m → (id : Option ℕ) → Keeps m (get_step m id)
get_keeps m v None = same m v
get_keeps m v (Some id) = same m v

-- a name or a tag less, and its record too where that was the last
pruned_names : (m : RecordMap) (name id : ℕ) (used : Bool) → length (cond used (with_name m name None) (record (with_name m name None) { records = set m.records id None })).names ≡ length m.names
pruned_names m name id true = length-set m.names name None
pruned_names m name id false = length-set m.names name None

pruned_tags : (m : RecordMap) (name id : ℕ) (used : Bool) → length (cond used (with_name m name None) (record (with_name m name None) { records = set m.records id None })).tags ≡ length m.tags
pruned_tags m name id true = refl
pruned_tags m name id false = refl

dropped_names : (m : RecordMap) (place id : ℕ) (used : Bool) → length (cond used (with_tag m place None) (record (with_tag m place None) { records = set m.records id None })).names ≡ length m.names
dropped_names m place id true = refl
dropped_names m place id false = refl

dropped_tags : (m : RecordMap) (place id : ℕ) (used : Bool) → length (cond used (with_tag m place None) (record (with_tag m place None) { records = set m.records id None })).tags ≡ length m.tags
dropped_tags m place id true = length-set m.tags place None
dropped_tags m place id false = length-set m.tags place None

pub del_keeps : (m : RecordMap) (name : ℕ) → IsValid m → (id : Option ℕ) → id_of m name ≡ id → Keeps m (del_step m name id)
del_keeps m name v None e = same m v
del_keeps m name v (Some id) e =
    record {
      valid = valid_unnamed m name id e v;
      names = pruned_names m name id (is_used (with_name m name None) id);
      tags = pruned_tags m name id (is_used (with_name m name None) id);
    }

at_keeps : (m : RecordMap) → IsValid m → (name : Option ℕ) → Keeps m (at_step m name)
at_keeps m v None = same m v
at_keeps m v (Some name) = same m v

pub link_keeps : (m : RecordMap) (name other : ℕ) → other < length m.names → IsValid m → (id : Option ℕ) → id_of m name ≡ id → Keeps m (link_step m other id)
link_keeps m name other below v None e = same m v
link_keeps m name other below v (Some id) e =
    cond_both (is_some (id_of m other)) _ _ (Keeps m)
    (λ taken. same m v)
    (λ free. cond_both (name_count m id == 8) _ _ (Keeps m)
    (λ many. same m v)
    (λ few. record {
      valid = valid_linked m other id below (none_from (id_of m other) free) (v.named name id e) (eqb-false (name_count m id) 8 few) v;
      names = length-set m.names other (Some id);
      tags = refl;
    }))

pub hold_keeps : (m : RecordMap) (place name : ℕ) → place < length m.tags → IsValid m → (held id : Option ℕ) → held_at m place ≡ held → id_of m name ≡ id → Keeps m (hold_step m place held id)
hold_keeps m place name below v (Some other) id h e = same m v
hold_keeps m place name below v None None h e = same m v
hold_keeps m place name below v None (Some id) h e = record { valid = valid_tagged m place id below h (v.named name id e) v; names = refl; tags = length-set m.tags place (Some id) }

read_keeps : (m : RecordMap) → IsValid m → (held : Option ℕ) → Keeps m (read_step m held)
read_keeps m v None = same m v
read_keeps m v (Some id) = same m v

pub write_keeps : (m : RecordMap) (value : List ℕ) → IsValid m → (held : Option ℕ) → Keeps m (write_step m value held)
write_keeps m value v None = same m v
write_keeps m value v (Some id) = changed m id _ v

pub drop_keeps : (m : RecordMap) (place : ℕ) → IsValid m → (held : Option ℕ) → held_at m place ≡ held → Keeps m (drop_step m place held)
drop_keeps m place v None h = same m v
drop_keeps m place v (Some id) h =
    record {
      valid = valid_untagged m place id h v;
      names = dropped_names m place id (is_used (with_tag m place None) id);
      tags = dropped_tags m place id (is_used (with_tag m place None) id);
    }

pub fix_keeps : (m : RecordMap) (fixed : Bool) → IsValid m → (id : Option ℕ) → Keeps m (fix_step m fixed id)
fix_keeps m fixed v None = same m v
fix_keeps m fixed v (Some id) = changed m id _ v

-- a tag's place is among those of its worker
pub place_within : (worker tag tags : ℕ) → 0 < worker → tag < 8 → 8 * worker ≤ tags → tag_place worker tag < tags
place_within worker tag tags first small last = omega arith

pub step_keeps : (m : RecordMap) (worker : ℕ) (command : Command) → IsValid m → IsInRange m worker command → Keeps m (step m worker command)
step_keeps m worker (Put name value) v r = put_keeps m name.0 value r.names v (id_of m name.0) refl
step_keeps m worker (Get name) v r = get_keeps m v (id_of m name.0)
step_keeps m worker (Del name) v r = del_keeps m name.0 v (id_of m name.0) refl
step_keeps m worker First v r = at_keeps m v (least_name m 0)
step_keeps m worker (Next name) v r = at_keeps m v (least_name m (name.0 + 1))
step_keeps m worker Count v r = same m v
step_keeps m worker (Link name other) v r = link_keeps m name.0 other.0 r.names.1 v (id_of m name.0) refl
step_keeps m worker (Hold tag name) v r = hold_keeps m (tag_place worker tag) name.0 (place_within worker tag (length m.tags) r.first r.tags r.last) v (held_at m (tag_place worker tag)) (id_of m name.0) refl refl
step_keeps m worker (Read tag) v r = read_keeps m v (held_at m (tag_place worker tag))
step_keeps m worker (Write tag value) v r = write_keeps m value v (held_at m (tag_place worker tag))
step_keeps m worker (Drop tag) v r = drop_keeps m (tag_place worker tag) v (held_at m (tag_place worker tag)) refl
step_keeps m worker (Fix name) v r = fix_keeps m true v (id_of m name.0)
step_keeps m worker (Loose name) v r = fix_keeps m false v (id_of m name.0)

pub start_valid : (names workers : ℕ) → IsValid (no_records names workers)
start_valid names workers =
    record {
      named = λ name id e. absurd (none (id_of (no_records names workers) name) id (get_or-replicate_none names name) e);
      held = λ place id e. absurd (none (held_at (no_records names workers) place) id (get_or-replicate_none (8 * workers) place) e);
      used = λ id live. absurd (both_ways false refl live);
      few = λ id. omega (arith, none_lead (replicate names None) id (λ i e. none (get_or (replicate names None) i None) id (get_or-replicate_none names i) e));
    }
  where
    none : (x : Option ℕ) (id : ℕ) → x ≡ None → x ≡ Some id → ⊥
    none None id e f = cc
    none (Some y) id e f = cc
