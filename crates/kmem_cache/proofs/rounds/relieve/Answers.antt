use Rattle.std.proofs.Common.{◌≡◌, ◌∷◌, [], ap, ◌∙◌}
use Rattle.std.proofs.lemmas.List.Elements.{All-cons, All-same}
use Rattle.kmem_buf.specs.Answers.{numbers_of}
use Rattle.magazine.specs.Layer.{layer_rounds, relieved}
use Rattle.magazine.specs.Ready.{IsReady}
use Rattle.kmem_cache.specs.Seats.{HasPut}
use Rattle.kmem_cache.proofs.Magazines.{all_left, all_right, put_relieved, on_ok}
use Rattle.kmem_cache.proofs.rounds.relieve.Goals as goal

pub swap_for_empty-requires-clause-ready : goal.swap_for_empty-requires-clause-ready
swap_for_empty-requires-clause-ready g c =
    let Ready = IsReady g.K.Kind.constructed c.args.store.now.home in let cpu = c.args.cpu.now in
    All-same Ready c.relieve-full.result cpu.previous c.relieve-full.ensures.result (all_right Ready cpu.loaded cpu.previous c.requires.ready)

pub returns-in-Ok-clause-ready : goal.returns-in-Ok-clause-ready
returns-in-Ok-clause-ready g c =
    let Ready = IsReady g.K.Kind.constructed c.args.store.now.home in let cpu = c.args.cpu.now in let b = c.args.buf in
    let spare = c.requires.spare in let is = c.in-Some.is in let was = c.replace.ensures.value in let none : c.in-Some.empty ≡ [] = cc in
    let done = put_relieved c.args.store.now.places c.in-Some.empty c.relieve-full.result b cpu c.relieve-full.new.self c.put.new.self c.args.seat.now c.swap_for_empty.new.seat
    c.requires.full.0 c.requires.full.1 none c.relieve-full.ensures.layer c.relieve-full.ensures.result c.put.ensures.layer c.in-Ok.ensures.swapped in
    All-same Ready (layer_rounds c.put.new.self) (b ∷ cpu.loaded) done.0 (All-cons Ready b cpu.loaded c.requires.buf (all_left Ready cpu.loaded cpu.previous c.requires.ready))

pub returns-in-Ok-clause-put : goal.returns-in-Ok-clause-put
returns-in-Ok-clause-put g c =
    let places = c.args.store.now.places in let cpu = c.args.cpu.now in let b = c.args.buf in let seat = c.args.seat.now in let seat' = c.swap_for_empty.new.seat in
    let spare = c.requires.spare in let is = c.in-Some.is in let was = c.replace.ensures.value in let none : c.in-Some.empty ≡ [] = cc in
    let done = put_relieved places c.in-Some.empty c.relieve-full.result b cpu c.relieve-full.new.self c.put.new.self seat seat'
    c.requires.full.0 c.requires.full.1 none c.relieve-full.ensures.layer c.relieve-full.ensures.result c.put.ensures.layer c.in-Ok.ensures.swapped in
    on_ok (HasPut places b.number (numbers_of (layer_rounds cpu)) (numbers_of (layer_rounds c.put.new.self)) seat seat') c.put.result done.1

pub returns-in-Err-clause-ready : goal.returns-in-Err-clause-ready
returns-in-Err-clause-ready g c =
    let Ready = IsReady g.K.Kind.constructed c.args.store.now.home in let cpu = c.args.cpu.now in
    let spare = c.requires.spare in let is = c.in-Some.is in let was = c.replace.ensures.value in let none : c.in-Some.empty ≡ [] = cc in
    let away : c.relieve-full.new.self ≡ relieved [] cpu = c.relieve-full.ensures.layer ∙ ap (λ e. relieved e cpu) none in
    let back : c.put_back.new.self ≡ cpu = c.put_back.ensures.undone cpu away (c.in-Err.ensures.refused.0 ∙ c.relieve-full.ensures.result) in
    All-same Ready (layer_rounds c.put_back.new.self) (layer_rounds cpu) (ap layer_rounds back) c.requires.ready
