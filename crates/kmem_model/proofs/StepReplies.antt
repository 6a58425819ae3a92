-- The names that replies tell are those of the map.
use Rattle.std.proofs.Common.{◌≡◌, ℕ, ◌+◌, ◌==◌, Bool, true, false, List, length, Option, Some, None, is_some, refl, sym, subst}
use Rattle.std.proofs.lemmas.Bool.{cond_both}
use Rattle.kmem_text.specs.declared.command.Command.{Command}
use Rattle.kmem_text.specs.declared.command.Command.TheVariants.{Put, Get, Del, First, Next, Count, Link, Hold, Read, Write, Drop, Fix, Loose}
use Rattle.kmem_text.specs.Replies.{IsReplyWithinNames}
use Rattle.kmem_model.proofs.CacheSearch.{least_from_some}
use Rattle.kmem_model.proofs.Legal.{placed_is}
use Rattle.kmem_model.specs.Records.{RecordMap, tag_place, id_of, held_at, name_count, least_name}
use Rattle.kmem_model.specs.RecordStep.{Step, put_step, get_step, del_step, at_step, link_step, hold_step, read_step, write_step, drop_step, fix_step, step}
use Rattle.kmem_model.specs.One.{OneState, OneStep, one_step, is_refused}

abbrev Within : RecordMap → Step → Type 0
Within m next = IsReplyWithinNames (length m.names) next.reply

put_within : (m : RecordMap) (name : ℕ) (value : List ℕ) (id : Option ℕ) → Within m (put_step m name value id)
put_within m name value None = tt
put_within m name value (Some id) = tt

get_within : (m : RecordMap) (id : Option ℕ) → Within m (get_step m id)
get_within m None = tt
get_within m (Some id) = tt

del_within : (m : RecordMap) (name : ℕ) (id : Option ℕ) → Within m (del_step m name id)
del_within m name None = tt
del_within m name (Some id) = tt

at_within : (m : RecordMap) (from : ℕ) (name : Option ℕ) → least_name m from ≡ name → Within m (at_step m name)
at_within m from None e = tt
at_within m from (Some name) e = (least_from_some (length m.names) _ name e).below

link_within : (m : RecordMap) (other : ℕ) (id : Option ℕ) → Within m (link_step m other id)
link_within m other None = tt
link_within m other (Some id) =
    cond_both (is_some (id_of m other)) _ _ (Within m) (λ e. tt)
    (λ e. cond_both (name_count m id == 8) _ _ (Within m) (λ f. tt) (λ f. tt))

hold_within : (m : RecordMap) (place : ℕ) (held named : Option ℕ) → Within m (hold_step m place held named)
hold_within m place (Some id) named = tt
hold_within m place None None = tt
hold_within m place None (Some id) = tt

read_within : (m : RecordMap) (held : Option ℕ) → Within m (read_step m held)
read_within m None = tt
read_within m (Some id) = tt

write_within : (m : RecordMap) (value : List ℕ) (held : Option ℕ) → Within m (write_step m value held)
write_within m value None = tt
write_within m value (Some id) = tt

drop_within : (m : RecordMap) (place : ℕ) (held : Option ℕ) → Within m (drop_step m place held)
drop_within m place None = tt
drop_within m place (Some id) = tt

fix_within : (m : RecordMap) (fixed : Bool) (id : Option ℕ) → Within m (fix_step m fixed id)
fix_within m fixed None = tt
fix_within m fixed (Some id) = tt

step_within : (m : RecordMap) (worker : ℕ) (command : Command) → Within m (step m worker command)
step_within m worker (Put name value) = put_within m name.0 value (id_of m name.0)
step_within m worker (Get name) = get_within m (id_of m name.0)
step_within m worker (Del name) = del_within m name.0 (id_of m name.0)
step_within m worker First = at_within m 0 (least_name m 0) refl
step_within m worker (Next name) = at_within m (name.0 + 1) (least_name m (name.0 + 1)) refl
step_within m worker Count = tt
step_within m worker (Link name other) = link_within m other.0 (id_of m name.0)
step_within m worker (Hold tag name) = hold_within m (tag_place worker tag) (held_at m (tag_place worker tag)) (id_of m name.0)
step_within m worker (Read tag) = read_within m (held_at m (tag_place worker tag))
step_within m worker (Write tag value) = write_within m value (held_at m (tag_place worker tag))
step_within m worker (Drop tag) = drop_within m (tag_place worker tag) (held_at m (tag_place worker tag))
step_within m worker (Fix name) = fix_within m true (id_of m name.0)
step_within m worker (Loose name) = fix_within m false (id_of m name.0)

pub one_within : (s : OneState) (worker : ℕ) (command : Command) → IsReplyWithinNames (length s.map.names) (one_step s worker command).reply
one_within s worker command =
    cond_both (is_refused s command) _ _ (λ (made : OneStep). IsReplyWithinNames (length s.map.names) made.reply)
    (λ due. tt)
    (λ free. subst (λ reply. IsReplyWithinNames (length s.map.names) reply) (sym (placed_is s command (step s.map worker command)).reply) (step_within s.map worker command))
