use Rattle.std.proofs.Common.{◌≡◌, ◌∷◌, [], ◌++◌, length, arith, ap, ◌∙◌}
use Rattle.std.proofs.lemmas.List.{nil_from_length}
use Rattle.asl_records.proofs.Listings.{begun, ended, last_within, visited, visited_less, put_down, put_less}
use Rattle.asl_records.specs.declared.listing.Task.TheVariants.{Visit, List as Put}
use Rattle.asl_records.proofs.listing.Listing.list.Goals as goal

pub loop-task-init : goal.loop-task-init
loop-task-init c =
    begun c.args.shapes.now c.args.self.now c.args.number c.new-tasks.result.items c.push.new.self.items c.requires.listing c.requires.below c.are_proper.ensures.proper c.new-tasks.ensures.items c.in_ok-push.ensures.items

-- a shape is gone through

pub visit-requires-clause-below : goal.visit-requires-clause-below
visit-requires-clause-below c =
    let split = c.in-Some.ensures.items ∙ ap (λ t. c.pop.new.self.items ++ t ∷ []) c.in-Visit.is in
    last_within _ _ _ c.pop.new.self.items (Visit c.in-Visit.next) _ split c.loop-task.invariant

pub visit-requires-clause-within : goal.visit-requires-clause-within
visit-requires-clause-within c =
    let split = c.in-Some.ensures.items ∙ ap (λ t. c.pop.new.self.items ++ t ∷ []) c.in-Visit.is in
    omega (arith, last_within _ _ _ c.pop.new.self.items (Visit c.in-Visit.next) _ split c.loop-task.invariant, c.loop-task.invariant.placed.counted)

pub loop-task-smaller-in-Continue-branch-2 : goal.loop-task-smaller-in-Continue-branch-2
loop-task-smaller-in-Continue-branch-2 c =
    let split = c.in-Some.ensures.items ∙ ap (λ t. c.pop.new.self.items ++ t ∷ []) c.in-Visit.is in
    visited_less _ _ _ c.pop.new.self.items _ c.in-Visit.next _ split c.in_ok-visit-in-Visit.ensures.put c.loop-task.invariant

pub loop-task-preserved-in-Continue-branch-2 : goal.loop-task-preserved-in-Continue-branch-2
loop-task-preserved-in-Continue-branch-2 c =
    let split = c.in-Some.ensures.items ∙ ap (λ t. c.pop.new.self.items ++ t ∷ []) c.in-Visit.is in
    visited _ _ _ c.pop.new.self.items _ c.in-Visit.next _ split c.in_ok-visit-in-Visit.ensures.put c.loop-task.invariant c.are_proper.ensures.proper

-- a shape is listed

pub put-requires : goal.put-requires
put-requires c =
    let split = c.in-Some.ensures.items ∙ ap (λ t. c.pop.new.self.items ++ t ∷ []) c.in-List.is in
    record { within = omega (arith, last_within _ _ _ c.pop.new.self.items (Put c.in-List.next) _ split c.loop-task.invariant, c.loop-task.invariant.placed.counted) }

pub loop-task-smaller : goal.loop-task-smaller
loop-task-smaller c =
    let split = c.in-Some.ensures.items ∙ ap (λ t. c.pop.new.self.items ++ t ∷ []) c.in-List.is in
    put_less _ _ _ c.pop.new.self.items c.in-List.next _ split c.loop-task.invariant

pub loop-task-preserved : goal.loop-task-preserved
loop-task-preserved c =
    let split = c.in-Some.ensures.items ∙ ap (λ t. c.pop.new.self.items ++ t ∷ []) c.in-List.is in
    put_down _ _ _ c.pop.new.self.items c.in-List.next _ _ split c.are_distinct.ensures.distinct c.loop-task.invariant c.in_ok-put-in-List.ensures.put

-- the end

pub returns-clause-listing : goal.returns-clause-listing
returns-clause-listing c =
    let none : length c.loop-task.tasks.items ≡ 0 = omega (arith, c.in_default.ensures.cases.0, c.loop-task.tasks.ok) in
    (ended _ _ _ _ c.loop-task.tasks.items c.requires.listing (c.are_proper.ensures.proper c.args.number) (nil_from_length c.loop-task.tasks.items none) c.loop-task.invariant).0
