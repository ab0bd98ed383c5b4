-- Places of cheapest joins get leads, from the last settled place to the first.
--     Places     what is known while so many settled places are not asked; before the first
--     Next       the next place, and that it gets no lead where no move leads on
--     Led        else it gets one, and the leads of all places stay right
--     Turn       one place was asked, with the lower start
--     Charted    all are asked
pub mod Places
pub mod Next
pub mod Led
pub mod Turn
pub mod Charted
