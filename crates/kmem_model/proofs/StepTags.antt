-- What a step leaves of the map and of its tags.
use Rattle.std.proofs.Common.{◌≡◌, ◌≢◌, ℕ, ◌+◌, ◌==◌, Bool, true, false, List, set, Option, Some, None, is_some, refl, ap}
use Rattle.std.proofs.lemmas.Bool.{cond_both, both_ways}
use Rattle.kmem_text.specs.declared.command.NameId.{NameId}
use Rattle.kmem_text.specs.declared.command.Tag.{Tag}
use Rattle.kmem_text.specs.declared.command.Command.{Command}
use Rattle.kmem_text.specs.declared.command.Command.TheVariants.{Put, Get, Del, First, Next, Count, Link, Hold, Read, Write, Drop, Fix, Loose}
use Rattle.kmem_text.specs.declared.command.Reply.TheVariants.{Done}
use Rattle.kmem_model.specs.Records.{RecordMap, tag_place, id_of, held_at, name_count, least_name, is_used, with_name, with_tag}
use Rattle.kmem_model.specs.RecordStep.{Step, put_step, get_step, del_step, at_step, link_step, hold_step, read_step, write_step, drop_step, fix_step, step, only_looks, leaves_tags}

-- Commands that only look

get_looks : (m : RecordMap) (id : Option ℕ) → (get_step m id).map ≡ m
get_looks m None = refl
get_looks m (Some id) = refl

at_looks : (m : RecordMap) (name : Option ℕ) → (at_step m name).map ≡ m
at_looks m None = refl
at_looks m (Some name) = refl

read_looks : (m : RecordMap) (held : Option ℕ) → (read_step m held).map ≡ m
read_looks m None = refl
read_looks m (Some id) = refl

pub looks_leave : (m : RecordMap) (worker : ℕ) (command : Command) → only_looks command ≡ true → (step m worker command).map ≡ m
looks_leave m worker (Get name) looks = get_looks m (id_of m name.0)
looks_leave m worker First looks = at_looks m (least_name m 0)
looks_leave m worker (Next name) looks = at_looks m (least_name m (name.0 + 1))
looks_leave m worker Count looks = refl
looks_leave m worker (Read tag) looks = read_looks m (held_at m (tag_place worker tag))
looks_leave m worker (Put name value) looks = absurd (both_ways false refl looks)
looks_leave m worker (Del name) looks = absurd (both_ways false refl looks)
looks_leave m worker (Link name other) looks = absurd (both_ways false refl looks)
looks_leave m worker (Hold tag name) looks = absurd (both_ways false refl looks)
looks_leave m worker (Write tag value) looks = absurd (both_ways false refl looks)
looks_leave m worker (Drop tag) looks = absurd (both_ways false refl looks)
looks_leave m worker (Fix name) looks = absurd (both_ways false refl looks)
looks_leave m worker (Loose name) looks = absurd (both_ways false refl looks)

-- Tags

put_tags : (m : RecordMap) (name : ℕ) (value : List ℕ) (id : Option ℕ) → (put_step m name value id).map.tags ≡ m.tags
put_tags m name value None = refl
put_tags m name value (Some id) = refl

del_tags : (m : RecordMap) (name : ℕ) (id : Option ℕ) → (del_step m name id).map.tags ≡ m.tags
del_tags m name None = refl
del_tags m name (Some id) = cond_both (is_used (with_name m name None) id) _ _ (λ (n : RecordMap). n.tags ≡ m.tags) (λ e. refl) (λ e. refl)

link_tags : (m : RecordMap) (other : ℕ) (id : Option ℕ) → (link_step m other id).map.tags ≡ m.tags
link_tags m other None = refl
link_tags m other (Some id) =
    cond_both (is_some (id_of m other)) _ _ (λ (s : Step). s.map.tags ≡ m.tags) (λ e. refl)
    (λ e. cond_both (name_count m id == 8) _ _ (λ (s : Step). s.map.tags ≡ m.tags) (λ f. refl) (λ f. refl))

write_tags : (m : RecordMap) (value : List ℕ) (held : Option ℕ) → (write_step m value held).map.tags ≡ m.tags
write_tags m value None = refl
write_tags m value (Some id) = refl

fix_tags : (m : RecordMap) (fixed : Bool) (id : Option ℕ) → (fix_step m fixed id).map.tags ≡ m.tags
fix_tags m fixed None = refl
fix_tags m fixed (Some id) = refl

pub tags_stay : (m : RecordMap) (worker : ℕ) (command : Command) → leaves_tags command ≡ true → (step m worker command).map.tags ≡ m.tags
tags_stay m worker (Put name value) leaves = put_tags m name.0 value (id_of m name.0)
tags_stay m worker (Get name) leaves = ap (λ (n : RecordMap). n.tags) (get_looks m (id_of m name.0))
tags_stay m worker (Del name) leaves = del_tags m name.0 (id_of m name.0)
tags_stay m worker First leaves = ap (λ (n : RecordMap). n.tags) (at_looks m (least_name m 0))
tags_stay m worker (Next name) leaves = ap (λ (n : RecordMap). n.tags) (at_looks m (least_name m (name.0 + 1)))
tags_stay m worker Count leaves = refl
tags_stay m worker (Link name other) leaves = link_tags m other.0 (id_of m name.0)
tags_stay m worker (Read tag) leaves = ap (λ (n : RecordMap). n.tags) (read_looks m (held_at m (tag_place worker tag)))
tags_stay m worker (Write tag value) leaves = write_tags m value (held_at m (tag_place worker tag))
tags_stay m worker (Fix name) leaves = fix_tags m true (id_of m name.0)
tags_stay m worker (Loose name) leaves = fix_tags m false (id_of m name.0)
tags_stay m worker (Hold tag name) leaves = absurd (both_ways false refl leaves)
tags_stay m worker (Drop tag) leaves = absurd (both_ways false refl leaves)

hold_done : (m : RecordMap) (place : ℕ) (held named : Option ℕ) → (hold_step m place held named).reply ≡ Done → (id : ℕ) × ((hold_step m place held named).map.tags ≡ set m.tags place (Some id))
hold_done m place (Some other) named done = absurd (cc)
hold_done m place None None done = absurd (cc)
hold_done m place None (Some id) done = (id, refl)

pub tag_held : (m : RecordMap) (worker : ℕ) (tag : Tag) (name : NameId) → (step m worker (Hold tag name)).reply ≡ Done → (id : ℕ) × ((step m worker (Hold tag name)).map.tags ≡ set m.tags (tag_place worker tag) (Some id))
tag_held m worker tag name done = hold_done m (tag_place worker tag) (held_at m (tag_place worker tag)) (id_of m name.0) done

hold_not_done : (m : RecordMap) (place : ℕ) (held named : Option ℕ) → (hold_step m place held named).reply ≢ Done → (hold_step m place held named).map.tags ≡ m.tags
hold_not_done m place (Some other) named other_reply = refl
hold_not_done m place None None other_reply = refl
hold_not_done m place None (Some id) other_reply = absurd (other_reply refl)

pub tag_not_held : (m : RecordMap) (worker : ℕ) (tag : Tag) (name : NameId) → (step m worker (Hold tag name)).reply ≢ Done → (step m worker (Hold tag name)).map.tags ≡ m.tags
tag_not_held m worker tag name other_reply = hold_not_done m (tag_place worker tag) (held_at m (tag_place worker tag)) (id_of m name.0) other_reply

drop_tags : (m : RecordMap) (place : ℕ) (held : Option ℕ) → is_some held ≡ true → (drop_step m place held).map.tags ≡ set m.tags place None
drop_tags m place None there = absurd (both_ways false refl there)
drop_tags m place (Some id) there = cond_both (is_used (with_tag m place None) id) _ _ (λ (n : RecordMap). n.tags ≡ set m.tags place None) (λ e. refl) (λ e. refl)

pub tag_dropped : (m : RecordMap) (worker : ℕ) (tag : Tag) → is_some (held_at m (tag_place worker tag)) ≡ true → (step m worker (Drop tag)).map.tags ≡ set m.tags (tag_place worker tag) None
tag_dropped m worker tag there = drop_tags m (tag_place worker tag) (held_at m (tag_place worker tag)) there
